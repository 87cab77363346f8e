use Rattle.std.proofs.Common.{◌∙◌, ◌+◌, ◌++◌, ◌∷◌, [], true, sym, ap, subst}
use Rattle.globs.specs.Rows.{IsFront}
use Rattle.globs.proofs.RowLemmas.{none_begins, none_more}
use Rattle.globs.proofs.rows.first_row.Goals as goal

pub loop-init : goal.loop-init
loop-init c =
    subst (IsFront [] c.args.text.now 0)
    (sym (c.in_ok-push.ensures.items ∙ ap (λ l. l ++ true ∷ []) c.new-row.ensures.items))
    (none_begins c.args.text.now)

pub loop-preserved : goal.loop-preserved
loop-preserved c =
    subst (IsFront [] c.args.text.now (c.loop.counter + 1)) (sym c.in_ok-push-2.ensures.items)
    (none_more c.args.text.now c.loop.row.items c.loop.counter c.loop-test.true c.loop.invariant)
