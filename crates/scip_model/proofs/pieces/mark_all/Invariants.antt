use Rattle.scip_model.specs.Tables.TakenPaths.{AreMarked}
use Rattle.scip_model.specs.Pieces.{texts}
use Rattle.scip_model.proofs.pieces.mark_all.Given as goal

abbrev pub invariant-loop-piece : goal.invariant-loop-piece
invariant-loop-piece l = AreMarked (texts l.paths) l.pieces l.piece l.marks.items
