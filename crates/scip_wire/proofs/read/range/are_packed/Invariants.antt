use Rattle.std.proofs.Common.{◌≡◌, length}
use Rattle.std.specs.Prelude.{is_some}
use Rattle.scip_wire.specs.Reading.{packed_at}
use Rattle.scip_wire.proofs.read.range.are_packed.Given as goal

-- what is left is packed where all is
abbrev pub invariant-varints : goal.invariant-varints
invariant-varints l = is_some (packed_at l.rest) ≡ is_some (packed_at l.bytes)

abbrev pub decreases-varints : goal.decreases-varints
decreases-varints l = length l.rest
