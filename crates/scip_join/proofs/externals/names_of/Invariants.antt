-- The symbols of the entries so far.
use Rattle.std.proofs.Common.{◌≡◌, take}
use Rattle.scip_join.specs.Gathered.{symbols_in}
use Rattle.scip_join.specs.Tables.{texts}
use Rattle.scip_join.proofs.externals.names_of.Given as goal

abbrev pub invariant-loop-entry : goal.invariant-loop-entry
invariant-loop-entry l = texts l.names.items ≡ symbols_in (take l.entry-index l.entries)
