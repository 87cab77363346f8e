use Rattle.std.proofs.Common.{◌≡◌, ◌∙◌, ◌++◌, ap, arith, drop, length, refl, sym, take}
use Rattle.std.proofs.lemmas.List.{take-append-drop}
use Rattle.std.proofs.lemmas.Slice.Eq.{bytes_eq-Decides}
use Rattle.scip_wire.proofs.ShortenedLemmas.{prefix_left_out}
use Rattle.scip_wire.proofs.spell.shortened.Shortened.leave_out.Goals as goal

pub returns-then-len-capacity : goal.returns-then-len-capacity
returns-then-len-capacity c =
    let bytes = c.args.bytes.now in
    let prefix = c.as_slice.result.now in
    let after = c.in-Some.behind.now in
    let same : take (length prefix) bytes ≡ prefix = (bytes_eq-Decides _ _).0 c.in-Some.ensures.cases.0 in
    let split : bytes ≡ c.args.self.now.prefix.items ++ after =
    sym (take-append-drop (length prefix) bytes) ∙ ap (λ l. l ++ drop (length prefix) bytes) same
    ∙ ap (λ l. prefix ++ l) (sym c.in-Some.ensures.cases.1) ∙ ap (λ l. l ++ after) c.as_slice.ensures.value in
    let at : length c.as_slice-at.result.now ≡ length c.args.self.now.rest.items = ap length c.as_slice-at.ensures.value
    in
    prefix_left_out _ _ _ _ _ split refl refl c.push_reserved.ensures.items at
    (λ within. omega (arith, c.saturating_sub-distance.ensures, at, within))
