use Rattle.std.proofs.Common.{◌≡◌, List, ℕ, Some, length, refl, subst}
use Rattle.std.specs.List.{slice_get}
use Rattle.std.proofs.lemmas.Result.{err_from_is_err_and}
use Rattle.std.proofs.lemmas.Option.{slice_get_read}
use Rattle.scip_model.specs.Tables.TakenPaths.{IsMarked, IsNotMarked}
use Rattle.scip_model.specs.Pieces.{texts}
use Rattle.scip_model.proofs.PieceLemmas.{marked-more, refused}
use Rattle.scip_model.proofs.pieces.mark_all.Goals as goal

pub returns-in_err-mark-clause-refused : goal.returns-in_err-mark-clause-refused
returns-in_err-mark-clause-refused c =
    let paths = texts c.args.paths.now in
    let pieces = c.args.pieces.now in
    let document = c.index-pieces-piece.result in
    let piece = c.loop-piece.piece in
    let marks = c.loop-piece.marks.items in
    let p = err_from_is_err_and c.from_residual.result c.from_residual.ensures.1 in
    let stands : slice_get pieces piece ≡ Some document =
    slice_get_read pieces (length pieces) piece document refl c.loop-piece-test.true c.index-pieces-piece.is in
    rw (p.1, p.2) (refused paths c.requires.rising pieces piece marks document c.in_err-mark.field-0.0
    c.loop-piece.invariant stands
    (subst (λ (path : List ℕ). IsNotMarked paths path marks piece c.in_err-mark.field-0.0) c.as_str.ensures
    c.in_err-mark.ensures.refused))

pub loop-piece-preserved : goal.loop-piece-preserved
loop-piece-preserved c =
    let paths = texts c.args.paths.now in
    let pieces = c.args.pieces.now in
    let document = c.index-pieces-piece.result in
    let piece = c.loop-piece.piece in
    let marks = c.loop-piece.marks.items in
    let stands : slice_get pieces piece ≡ Some document =
    slice_get_read pieces (length pieces) piece document refl c.loop-piece-test.true c.index-pieces-piece.is in
    marked-more paths c.requires.rising pieces piece marks c.mark.new.marks.items document c.loop-piece.invariant stands
    (subst (λ (path : List ℕ). IsMarked paths path marks c.mark.new.marks.items) c.as_str.ensures
    c.in_ok-mark.ensures.marked)
