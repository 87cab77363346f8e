use Rattle.std.proofs.Common.{◌∙◌, ◌+◌, ◌++◌, ◌∷◌, [], sym, ap, subst}
use Rattle.globs.proofs.RowLemmas.{IsNext, next_begins, next_more}
use Rattle.globs.proofs.rows.next_row.Goals as goal

pub loop-at-init : goal.loop-at-init
loop-at-init c =
    let all = c.starts-all.result in
    subst (IsNext c.args.piece c.args.text.now c.args.row.now 0 all)
    (sym (c.in_ok-push.ensures.items ∙ ap (λ l. l ++ all ∷ []) c.new-next.ensures.items))
    (next_begins c.args.piece c.args.text.now c.args.row.now all _ c.starts-all.ensures)

pub loop-at-preserved : goal.loop-at-preserved
loop-at-preserved c =
    let now = c.ends-all.result in
    subst (IsNext c.args.piece c.args.text.now c.args.row.now (c.loop-at.at + 1) now)
    (sym c.in_ok-push-2.ensures.items)
    (next_more c.args.piece c.args.text.now c.args.row.now c.loop-at.next.items c.loop-at.at c.loop-at.all now _ _ _
    c.loop-at-test.true c.ends-all.ensures c.loop-at.invariant)
