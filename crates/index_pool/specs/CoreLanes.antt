-- The lanes that the core machine shows: each of its events changes what is known of the lanes as the step at a deque
-- does whose event it is.
use Rattle.std.specs.Prelude.{◌≡◌, ℕ, ◌%◌, ◌<◌, ◌==◌, true, List, [], ◌∷◌, ◌++◌, length, slice_index, if◌then◌else◌}
use Rattle.index_pool.specs.declared.core_machine.Event.{Event}
use Rattle.index_pool.specs.declared.core_machine.Event.TheVariants.{Seed, Pop, PopEmpty, Steal, StealEmpty, StealRetry}
use Rattle.index_pool.specs.declared.lanes.rule.LaneView.{LaneView}
use Rattle.index_pool.specs.Lane.{lane_numbers, IsLane, lane_view, more_given, more_popped, more_stolen}
use Rattle.index_pool.specs.CoreMachine.{CoreState, core_start, worker_at, queue_of, neighbour, state_after, CoreRun}

-- what is known of lane w after a possible event: a number is given to the lane that it is seeded in, popped by its
-- owner, or stolen by the worker whose neighbour that is
abbrev pub lane_after : CoreState → ℕ → LaneView → Event → LaneView
lane_after s w v (Seed k) = if (k % length s.workers) == w then more_given v (k ∷ []) else v
lane_after s w v (Pop u) = if u == w then more_popped v (slice_index (queue_of s w) 0 ∷ []) else v
lane_after s w v (PopEmpty u) = v
lane_after s w v (Steal u) = if neighbour s u == w then more_stolen v (slice_index (queue_of s w) 0 ∷ []) else v
lane_after s w v (StealEmpty u) = v
lane_after s w v (StealRetry u) = v

-- the same after some events, one after the other
abbrev pub lane_later : CoreState → ℕ → LaneView → List Event → LaneView
lane_later s w v [] = v
lane_later s w v (e ∷ es) = lane_later (state_after s e) w (lane_after s w v e) es

-- what is known of lane w after these events from the start
abbrev pub lane_of : ℕ → ℕ → List Event → ℕ → LaneView
lane_of inputs workers events w = lane_later (core_start inputs workers) w (lane_view true true [] [] []) events

-- in every state to which events lead, a worker's queue is that of a lane, which was given those of the numbers seeded
-- that are the lane's; and the worker took what it popped of its own lane, and then what it stole of its neighbour's
abbrev pub ShowsLanes : Type 0
ShowsLanes = (inputs workers : ℕ) (events : List Event) (s : CoreState) (w : ℕ) → w < workers
    → CoreRun (core_start inputs workers) events s → (let v = lane_of inputs workers events w in
    (v.given ≡ lane_numbers s.seeded workers w) × IsLane v.given (queue_of s w) v.popped v.stolen
    × ((worker_at s w).takings ≡ v.popped ++ (lane_of inputs workers events (neighbour s w)).stolen))
