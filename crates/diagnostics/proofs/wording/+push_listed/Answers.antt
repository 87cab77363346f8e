use Rattle.std.specs.String.{string_bytes}
use Rattle.std.proofs.Common.{◌∙◌, ◌++◌, ℕ, List, ap}
use Rattle.std.proofs.lemmas.Result.{on_ok_weaker}
use Rattle.diagnostics.proofs.WordingLemmas.{first_of, three_parts}
use Rattle.diagnostics.proofs.wording.+push_listed.Goals as goal

pub returns-in_ok-push_str-in-len1-up : goal.returns-in_ok-push_str-in-len1-up
returns-in_ok-push_str-in-len1-up t c =
    on_ok_weaker c.push_listed.result (λ h.
    three_parts (string_bytes c.args.out.now) (string_bytes c.push_shown.new.out)
    (string_bytes c.push_str-in-len1-up.new.self) (string_bytes c.push_listed.new.out) _ _ _ _
    c.in_ok-push_shown-in-len1-up.ensures
    (c.in_ok-push_str-in-len1-up.ensures.bytes
    ∙ ap (λ (t : List ℕ). string_bytes c.push_shown.new.out ++ t) c.between.ensures)
    h (first_of c.args.hints.now _ c.args.room c.in-len1-up.len_at_least c.if-room-eq0.false)) c.push_listed.ensures
