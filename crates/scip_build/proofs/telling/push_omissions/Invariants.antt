use Rattle.scip_build.specs.Telling.{Adds, FromFront, IsLeftIf}
use Rattle.scip_build.proofs.telling.push_omissions.Given as goal

abbrev pub invariant-loop-number : goal.invariant-loop-number
invariant-loop-number l =
    Adds (FromFront (IsLeftIf l.parsed) l.omissions l.number) l.fn.told.items l.told.items
