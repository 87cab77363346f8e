use Rattle.std.proofs.Common.{◌≡◌, ℕ, ◌+◌, ◌-◌, ◌*◌, length, sum_by}
use Rattle.index_pool.specs.LaneEnds.{thief_view, tries_left}
use Rattle.index_pool.specs.Tables.PhaseSteps.{StoleMore, AllGiven, weight}
use Rattle.index_pool.proofs.phase.worker.run_stolen.Given as goal

abbrev pub invariant-steals : goal.invariant-steals
invariant-steals g l = record {
  thief : StoleMore l.initial.thief l.thief;
  answers : AllGiven (g.J.Job.gives l.task.job.now) l.initial.results.items
      → AllGiven (g.J.Job.gives l.task.job.now) l.results.items;
  weighed : (h : ℕ → ℕ) → weight h l.results.items + sum_by h (thief_view l.initial.thief).stolen
      ≡ weight h l.initial.results.items + sum_by h (thief_view l.thief).stolen;
}

abbrev pub decreases-steals : goal.decreases-steals
decreases-steals g l = (length (thief_view l.thief).given - length (thief_view l.thief).stolen) * 65
    + tries_left l.thief
