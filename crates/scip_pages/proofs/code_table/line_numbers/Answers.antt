use Rattle.std.proofs.Common.{◌∙◌, ap, sym, ℕ, ◌+◌, ◌++◌, ◌∷◌, [], arith}
use Rattle.scip_pages.proofs.CodeTextLemmas.{range_more}
use Rattle.scip_pages.proofs.code_table.line_numbers.Goals as goal

pub loop-number-preserved : goal.loop-number-preserved
loop-number-preserved c =
    let at : ℕ = c.loop-number.number in
    c.in_ok-push.ensures.items ∙ ap (λ l. l ++ (at + 1) ∷ []) c.loop-number.invariant
    ∙ sym (range_more 1 at (at + 1) (omega arith))
