-- What a refused write of an index leaves.
use Rattle.std.specs.Prelude.{ℕ, List}
use Rattle.streams.specs.Writers.{Writer, IsCutOff, IsUntouched}
use Rattle.scip_wire.specs.declared.write_fault.WriteFault.{WriteFault}
use Rattle.scip_wire.specs.declared.write_fault.WriteFault.TheVariants.{TooLarge, Write}

-- What a refusal leaves of a sink, where the bytes were due: a failed write has cut them off; if there are too many,
-- the sink is as it was.
abbrev pub Leaves : {W : Type 0} → Writer W → List ℕ → WriteFault → Type 0
Leaves out due (Write count) = IsCutOff out due count
Leaves out due TooLarge = IsUntouched out
