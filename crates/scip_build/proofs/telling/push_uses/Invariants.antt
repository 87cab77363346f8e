use Rattle.std.proofs.Common.{◌≡◌, ◌++◌, take}
use Rattle.std.specs.List.{flat_map}
use Rattle.scip_build.specs.Telling.{told_use}
use Rattle.scip_build.proofs.telling.push_uses.Given as goal

abbrev pub invariant-loop-fault : goal.invariant-loop-fault
invariant-loop-fault l =
    l.told.items ≡ l.fn.told.items ++ flat_map (told_use l.numbers) (take l.fault-index l.faults)
