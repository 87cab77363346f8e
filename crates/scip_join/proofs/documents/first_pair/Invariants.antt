-- What the pieces that are left have is what all have.
use Rattle.std.proofs.Common.{◌≡◌, length}
use Rattle.scip_join.specs.Tables.{first_pair}
use Rattle.scip_join.proofs.documents.first_pair.Given as goal

abbrev pub invariant-pieces : goal.invariant-pieces
invariant-pieces l = first_pair l.rest ≡ first_pair l.pieces

abbrev pub decreases-pieces : goal.decreases-pieces
decreases-pieces l = length l.rest
