-- What the private fields of the core machine show, and what they keep.
use Rattle.std.specs.Prelude.{◌≡◌, ℕ, ◌+◌, ◌<◌, ◌≤◌, List, [], length, map, All, sum_by, true, vec_capacity}
use Rattle.std.specs.VecDeque.{deque_capacity}
use Rattle.std.specs.List.{range_with_len}
use Rattle.index_pool.specs.CoreMachine.{WorkerState, CoreState}
use Rattle.index_pool.specs.Workers.{most_inputs, most_workers}
use Rattle.index_pool.specs.declared.core_machine.worker.CoreWorker.{CoreWorker}

abbrev pub worker_state : CoreWorker → WorkerState
worker_state w = record { queue = w.queue.items; takings = w.takings.items; found_empty = w.found_empty }

-- the room of a worker's two lists
abbrev pub rooms : CoreWorker → ℕ × ℕ
rooms w = (deque_capacity w.queue, vec_capacity w.takings)

-- each list has room for n numbers
abbrev pub HasRoom : ℕ → CoreWorker → Type 0
HasRoom n w = (n ≤ (rooms w).0) × (n ≤ (rooms w).1)

abbrev pub core_state : ℕ → ℕ → List CoreWorker → CoreState
core_state inputs seeded workers = record { inputs = inputs; seeded = seeded; workers = map worker_state workers }

-- the weights of the numbers that a worker and its queue hold, added up
abbrev pub held : (ℕ → ℕ) → WorkerState → ℕ
held h x = sum_by h x.queue + sum_by h x.takings

-- a worker that has noted that its queue is empty is right, now and later
abbrev pub NotesTruly : CoreState → WorkerState → Type 0
NotesTruly s x = x.found_empty ≡ true → (x.queue ≡ []) × (s.seeded ≡ s.inputs)

-- however the numbers are weighed, those seeded weigh what the workers hold
pub record IsSound (s : CoreState) : Type 0 where
  pub weighed : (h : ℕ → ℕ) → sum_by (held h) s.workers ≡ sum_by h (range_with_len 0 s.seeded)
  pub noted : All (NotesTruly s) s.workers
  pub within : s.seeded ≤ s.inputs

pub record IsCoreInvariant (inputs seeded : ℕ) (workers : List CoreWorker) : Type 0 where
  pub some_worker : 0 < length workers
  pub few_workers : length workers ≤ most_workers
  pub few_inputs : inputs ≤ most_inputs
  pub roomy : All (HasRoom inputs) workers
  pub sound : IsSound (core_state inputs seeded workers)
