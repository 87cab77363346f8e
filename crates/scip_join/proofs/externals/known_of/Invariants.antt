-- Those of the symbols of the pieces so far.
use Rattle.std.proofs.Common.{◌≡◌, take}
use Rattle.scip_join.specs.Tables.{known_in, texts}
use Rattle.scip_join.proofs.externals.known_of.Given as goal

abbrev pub invariant-loop-piece : goal.invariant-loop-piece
invariant-loop-piece l = texts l.known.items ≡ known_in (texts l.names) (take l.piece-index l.pieces)
