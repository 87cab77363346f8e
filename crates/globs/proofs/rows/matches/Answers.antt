use Rattle.std.proofs.Common.{length, take, sym, subst, arith}
use Rattle.std.proofs.lemmas.List.{take_more}
use Rattle.globs.specs.Rows.{AreRow, IsFront}
use Rattle.globs.proofs.RowLemmas.{all_pieces, row_ends}
use Rattle.globs.proofs.rows.matches.Goals as goal

pub loop-piece-preserved : goal.loop-piece-preserved
loop-piece-preserved c =
    let pieces = c.args.pieces.now in
    let text = c.args.text.now in
    let number = c.loop-piece.piece-index in
    let old = subst (AreRow (take number pieces) text) (sym c.deref.ensures.value) c.loop-piece.invariant in
    subst (λ l. IsFront l text (length text) c.in_ok-row-2.row.items)
    (sym (take_more pieces number _ c.loop-piece-test.true)) (c.in_ok-row-2.ensures (take number pieces) old)

pub returns : goal.returns
returns c =
    let are = all_pieces c.args.pieces.now c.args.text.now c.loop-piece.row.items c.loop-piece.piece-index
    (omega (arith, c.loop-piece-test.false)) c.loop-piece.invariant in
    row_ends c.args.pieces.now c.args.text.now c.loop-piece.row.items c.index.result.now are c.index.ensures
