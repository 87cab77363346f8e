use Rattle.std.proofs.Common.{◌≡◌, ◌++◌, ◌≤◌, length}
use Rattle.scip_pages.specs.Runs.{runs_of}
use Rattle.scip_pages.proofs.runs.runs_of.Given as goal

-- the runs so far, and those of the marks that are left
abbrev pub invariant-loop-rest : goal.invariant-loop-rest
invariant-loop-rest l = record {
  cut : l.runs.items ++ runs_of l.rest ≡ runs_of l.marks;
  short : length l.rest ≤ length l.marks;
}

abbrev pub decreases-loop-rest : goal.decreases-loop-rest
decreases-loop-rest l = length l.rest
