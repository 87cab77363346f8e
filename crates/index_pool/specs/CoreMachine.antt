-- The core machine: workers who share the numbers below a bound, as one pure state and the events that change it. Each
-- worker has a queue, and takes numbers from its own or, once it has found that empty, from its neighbour's.
use Rattle.std.specs.Prelude.{◌≡◌, ℕ, ◌+◌, ◌%◌, ◌<◌, Bool, true, false, List, [], ◌∷◌, ◌++◌, length, drop, replicate}
use Rattle.std.specs.Prelude.{slice_index, slice_index_or, slice_set, Option, Some, None, All}
use Rattle.std.specs.List.{flat_map}
use Rattle.index_pool.specs.Once.{HasEachOnceBelow}
use Rattle.index_pool.specs.declared.core_machine.Event.{Event}
use Rattle.index_pool.specs.declared.core_machine.Event.TheVariants.{Seed, Pop, PopEmpty, Steal, StealEmpty, StealRetry}

-- one worker: its queue, front first; the numbers that it took, in order; and whether it has noted that its queue is
-- empty
pub record WorkerState : Type 0 where
  pub queue : List ℕ
  pub takings : List ℕ
  pub found_empty : Bool

-- the numbers below `inputs` are to be seeded, and those below `seeded` were
pub record CoreState : Type 0 where
  pub inputs : ℕ
  pub seeded : ℕ
  pub workers : List WorkerState

-- a worker with nothing yet
abbrev pub idle : WorkerState
idle = record { queue = []; takings = []; found_empty = false }

abbrev pub core_start : ℕ → ℕ → CoreState
core_start inputs workers = record { inputs = inputs; seeded = 0; workers = replicate workers idle }

abbrev pub worker_at : CoreState → ℕ → WorkerState
worker_at s w = slice_index_or s.workers w idle

abbrev pub queue_of : CoreState → ℕ → List ℕ
queue_of s w = (worker_at s w).queue

-- the next worker, and of the last worker the first
abbrev pub neighbour : CoreState → ℕ → ℕ
neighbour s w = (w + 1) % length s.workers

-- every number is seeded, and there is such a worker
abbrev pub IsReady : CoreState → ℕ → Type 0
IsReady s w = (s.seeded ≡ s.inputs) × (w < length s.workers)

-- the same, and the worker has noted that its queue is empty
abbrev pub HasNoted : CoreState → ℕ → Type 0
HasNoted s w = IsReady s w × ((worker_at s w).found_empty ≡ true)

-- which events are possible in a state
abbrev pub MayHappen : CoreState → Event → Type 0
MayHappen s (Seed k) = (k ≡ s.seeded) × (k < s.inputs)
MayHappen s (Pop w) = IsReady s w × (0 < length (queue_of s w))
MayHappen s (PopEmpty w) = IsReady s w × (queue_of s w ≡ [])
MayHappen s (Steal w) = HasNoted s w × (0 < length (queue_of s (neighbour s w)))
MayHappen s (StealEmpty w) = HasNoted s w × (queue_of s (neighbour s w) ≡ [])
MayHappen s (StealRetry w) = HasNoted s w

-- one worker with one more number in its queue, without the first of them, with one more number taken, and with the
-- note
abbrev pub queued : WorkerState → ℕ → WorkerState
queued x k = record x { queue = x.queue ++ k ∷ [] }

abbrev pub unqueued : WorkerState → WorkerState
unqueued x = record x { queue = drop 1 x.queue }

abbrev pub taken : WorkerState → ℕ → WorkerState
taken x k = record x { takings = x.takings ++ k ∷ [] }

abbrev pub noted : WorkerState → WorkerState
noted x = record x { found_empty = true }

abbrev pub with_worker : CoreState → ℕ → WorkerState → CoreState
with_worker s w x = record s { workers = slice_set s.workers w x }

-- the first number of one worker's queue goes to the end of another's takings, or of its own
abbrev pub after_take : CoreState → ℕ → ℕ → CoreState
after_take s from to =
    let without = with_worker s from (unqueued (worker_at s from)) in
    with_worker without to (taken (worker_at without to) (slice_index (queue_of s from) 0))

-- the state after a possible event
abbrev pub state_after : CoreState → Event → CoreState
state_after s (Seed k) = let w = k % length s.workers in
    record (with_worker s w (queued (worker_at s w) k)) { seeded = s.seeded + 1 }
state_after s (Pop w) = after_take s w w
state_after s (PopEmpty w) = with_worker s w (noted (worker_at s w))
state_after s (Steal w) = after_take s (neighbour s w) w
state_after s (StealEmpty w) = s
state_after s (StealRetry w) = s

-- the number that a worker takes by a possible event
abbrev pub number_taken : CoreState → Event → Option ℕ
number_taken s (Seed k) = None
number_taken s (Pop w) = Some (slice_index (queue_of s w) 0)
number_taken s (PopEmpty w) = None
number_taken s (Steal w) = Some (slice_index (queue_of s (neighbour s w)) 0)
number_taken s (StealEmpty w) = None
number_taken s (StealRetry w) = None

-- the event is possible, and gives this answer and this state
abbrev pub CoreStep : CoreState → Event → Option ℕ → CoreState → Type 0
CoreStep s e answer t = MayHappen s e × (answer ≡ number_taken s e) × (t ≡ state_after s e)

-- the events are possible one after the other, and lead to this state
abbrev pub CoreRun : CoreState → List Event → CoreState → Type 0
CoreRun s [] t = s ≡ t
CoreRun s (e ∷ es) t = MayHappen s e × CoreRun (state_after s e) es t

-- all that the queues and the workers hold
abbrev pub numbers_held : CoreState → List ℕ
numbers_held s = flat_map (λ x. x.queue ++ x.takings) s.workers

abbrev pub all_takings : CoreState → List ℕ
all_takings s = flat_map (λ x. x.takings) s.workers

-- of a state to which some events lead from the start: each seeded number is in one queue or in one worker's takings,
-- once
abbrev pub LosesNoNumber : Type 0
LosesNoNumber = (inputs workers : ℕ) (events : List Event) (s : CoreState) → 0 < workers
    → CoreRun (core_start inputs workers) events s → HasEachOnceBelow s.seeded (numbers_held s)

-- and if every worker has noted that its queue is empty, the takings of all are the numbers below the bound, each
-- once
abbrev pub TakesEachNumber : Type 0
TakesEachNumber = (inputs workers : ℕ) (events : List Event) (s : CoreState) → 0 < workers
    → CoreRun (core_start inputs workers) events s → All (λ x. x.found_empty ≡ true) s.workers
    → HasEachOnceBelow inputs (all_takings s)
