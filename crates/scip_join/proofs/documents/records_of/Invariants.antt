-- The records of the pieces so far.
use Rattle.std.proofs.Common.{◌≡◌}
use Rattle.scip_join.specs.Tables.{records_in}
use Rattle.scip_join.proofs.documents.records_of.Given as goal

abbrev pub invariant-loop-piece : goal.invariant-loop-piece
invariant-loop-piece l = l.records.items ≡ records_in l.yielded
