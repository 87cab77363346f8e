use Rattle.std.proofs.Common.{◌≡◌, ◌++◌, map, take}
use Rattle.scip_build.specs.Telling.{told_uncertain}
use Rattle.scip_build.proofs.telling.push_uncertain.Given as goal

abbrev pub invariant-loop-one : goal.invariant-loop-one
invariant-loop-one l =
    l.told.items ≡ l.fn.told.items ++ map (told_uncertain l.numbers) (take l.one-index l.uncertain)
