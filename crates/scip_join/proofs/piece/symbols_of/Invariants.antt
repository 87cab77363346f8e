-- The symbols of the entries so far.
use Rattle.std.proofs.Common.{◌≡◌}
use Rattle.scip_join.specs.Gathered.{symbols_in}
use Rattle.scip_join.proofs.piece.symbols_of.Given as goal

abbrev pub invariant-loop-entry : goal.invariant-loop-entry
invariant-loop-entry l = l.symbols.items ≡ symbols_in l.yielded
