-- What is kept of the documents so far, and that they are well-formed.
use Rattle.std.proofs.Common.{◌≡◌, ◌++◌, All}
use Rattle.scip_wire.specs.WellFormed.{IsFitDocument}
use Rattle.scip_join.specs.Gathered.{pieces_in}
use Rattle.scip_join.proofs.gathered.push_pieces.Given as goal

abbrev pub invariant-loop-document : goal.invariant-loop-document
invariant-loop-document l = record {
  kept : l.pieces.items ≡ l.fn.pieces.items ++ pieces_in l.index l.yielded;
  known : All IsFitDocument l.yielded;
}
