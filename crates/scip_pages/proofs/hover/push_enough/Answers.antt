use Rattle.std.proofs.Common.{◌≡◌, ◌∙◌, ◌++◌, ◌-◌, ℕ, List, ap, arith, length, take}
use Rattle.scip_pages.proofs.HoverLemmas.{taken_more}
use Rattle.scip_pages.proofs.hover.push_enough.Goals as goal

pub returns : goal.returns
returns c = λ front is.
    let old : List ℕ = c.args.text.now.items in
    let bytes : List ℕ = c.args.bytes.now in
    let room : c.saturating_sub-room.result ≡ 4097 - length old =
    omega (arith, c.saturating_sub-room.ensures, c.len.ensures) in
    c.in_ok-extend_from_slice.ensures.items
    ∙ (ap (λ (more : List ℕ). old ++ more) (c.cut.ensures.front ∙ ap (λ (n : ℕ). take n bytes) room)
    ∙ (ap (λ (xs : List ℕ). xs ++ take (4097 - length xs) bytes) is ∙ taken_more 4097 front bytes))
