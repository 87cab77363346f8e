-- The numbers so far, and those to come.
use Rattle.std.proofs.Common.{◌≡◌, ◌++◌, drop}
use Rattle.scip_build.specs.Keeping.{kept_numbers}
use Rattle.scip_build.proofs.keeping.kept_numbers.Given as goal

abbrev pub invariant-loop-number : goal.invariant-loop-number
invariant-loop-number l =
    l.numbers.items ++ kept_numbers l.number (drop l.number l.omissions) ≡ kept_numbers 0 l.omissions
