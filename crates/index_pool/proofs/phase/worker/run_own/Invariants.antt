use Rattle.std.proofs.Common.{◌≡◌, ℕ, ◌+◌, ◌-◌, length, sum_by}
use Rattle.index_pool.specs.LaneEnds.{owner_view}
use Rattle.index_pool.specs.Tables.PhaseSteps.{PoppedMore, AllGiven, weight}
use Rattle.index_pool.proofs.phase.worker.run_own.Given as goal

abbrev pub invariant-pops : goal.invariant-pops
invariant-pops g l = record {
  owner : PoppedMore l.initial.owner l.owner;
  answers : AllGiven (g.J.Job.gives l.task.job.now) l.initial.results.items
      → AllGiven (g.J.Job.gives l.task.job.now) l.results.items;
  weighed : (h : ℕ → ℕ) → weight h l.results.items + sum_by h (owner_view l.initial.owner).popped
      ≡ weight h l.initial.results.items + sum_by h (owner_view l.owner).popped;
}

abbrev pub decreases-pops : goal.decreases-pops
decreases-pops g l = length (owner_view l.owner).given - length (owner_view l.owner).popped
