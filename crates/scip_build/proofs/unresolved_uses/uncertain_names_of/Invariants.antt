-- The names so far, and those to come.
use Rattle.std.proofs.Common.{◌≡◌, ◌++◌, drop}
use Rattle.scip_build.specs.Made.{names_from}
use Rattle.scip_build.proofs.unresolved_uses.uncertain_names_of.Given as goal

abbrev pub invariant-loop-file : goal.invariant-loop-file
invariant-loop-file g l = l.names.items ++ names_from l.file (drop l.file l.made) ≡ names_from 0 l.made
