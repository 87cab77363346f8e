-- The numbers so far, and those to come.
use Rattle.std.proofs.Common.{◌≡◌, ◌++◌, drop}
use Rattle.scip_build.specs.Keeping.{left_numbers}
use Rattle.scip_build.proofs.keeping.left_numbers.Given as goal

abbrev pub invariant-loop-number : goal.invariant-loop-number
invariant-loop-number l =
    l.numbers.items ++ left_numbers l.number (drop l.number l.omissions) ≡ left_numbers 0 l.omissions
