use Rattle.std.proofs.Common.{◌≡◌, ℕ, ◌+◌, All, length, sum_by}
use Rattle.index_pool.specs.Lane.{lane_numbers}
use Rattle.index_pool.specs.LaneEnds.{owner_view}
use Rattle.index_pool.specs.Tables.PhaseSteps.{FreshLane}
use Rattle.index_pool.proofs.LaneNumbersLemmas.{lanes_weight}
use Rattle.index_pool.proofs.phase.further_lanes.Given as goal

abbrev pub invariant-loop-worker : goal.invariant-loop-worker
invariant-loop-worker l = record {
  count : length l.lanes.items + 1 ≡ l.worker;
  fresh : All (FreshLane l.inputs) l.lanes.items;
  weighed : (h : ℕ → ℕ) → sum_by h (lane_numbers l.inputs l.workers 0)
      + sum_by (λ ends. sum_by h (owner_view ends.0).given) l.lanes.items ≡ lanes_weight h l.inputs l.workers l.worker;
}
