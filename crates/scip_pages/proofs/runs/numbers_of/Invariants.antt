use Rattle.std.proofs.Common.{◌≡◌, map, take}
use Rattle.scip_pages.specs.Runs.{number_of}
use Rattle.scip_pages.proofs.runs.numbers_of.Given as goal

-- the numbers so far
abbrev pub invariant-loop-span : goal.invariant-loop-span
invariant-loop-span l = l.numbers.items ≡ map number_of (take l.span-index l.found)
