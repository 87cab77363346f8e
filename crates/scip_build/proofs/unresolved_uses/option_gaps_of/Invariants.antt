-- The places so far, and those to come.
use Rattle.std.proofs.Common.{◌≡◌, ◌++◌, drop}
use Rattle.scip_build.specs.Made.{gaps_from}
use Rattle.scip_build.proofs.unresolved_uses.option_gaps_of.Given as goal

abbrev pub invariant-loop-file : goal.invariant-loop-file
invariant-loop-file g l = l.places.items ++ gaps_from l.file (drop l.file l.made) ≡ gaps_from 0 l.made
