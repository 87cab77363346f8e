use Rattle.std.proofs.Common.{◌≡◌, ◌++◌, map, take}
use Rattle.scip_build.specs.Telling.{told_gap}
use Rattle.scip_build.proofs.telling.push_gaps.Given as goal

abbrev pub invariant-loop-place : goal.invariant-loop-place
invariant-loop-place l = l.told.items ≡ l.fn.told.items ++ map (told_gap l.numbers) (take l.place-index l.places)
