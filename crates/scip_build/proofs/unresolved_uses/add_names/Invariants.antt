use Rattle.std.proofs.Common.{◌≡◌, ◌++◌, take}
use Rattle.scip_build.proofs.unresolved_uses.add_names.Given as goal

abbrev pub invariant-loop-name : goal.invariant-loop-name
invariant-loop-name l = l.uncertain.items ≡ l.fn.uncertain.items ++ take l.name-index l.names
