use Rattle.std.proofs.Common.{◌≡◌, ◌++◌, map, take}
use Rattle.scip_build.specs.Made.{name_in}
use Rattle.scip_build.proofs.unresolved_uses.push_names.Given as goal

abbrev pub invariant-loop-at : goal.invariant-loop-at
invariant-loop-at l = l.names.items ≡ l.fn.names.items ++ map (name_in l.file) (take l.at-index l.places)
