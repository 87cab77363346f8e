-- Running deques and the core machine. The steps of all workers at all deques come in one order; each deque is looked
-- at by itself, and so is each worker.
use Rattle.std.specs.Prelude.{⊤, ◌≡◌, ℕ, ◌+◌, ◌%◌, ◌<◌, ◌==◌, Bool, true, false, List, [], ◌∷◌, ◌++◌, map, drop, All}
use Rattle.std.specs.Prelude.{Option, Some, None, if◌then◌else◌}
use Rattle.std.specs.List.{range_with_len}
use Rattle.index_pool.specs.declared.core_machine.Event.{Event}
use Rattle.index_pool.specs.declared.core_machine.Event.TheVariants.{Seed, Pop, PopEmpty, Steal, StealEmpty, StealRetry}
use Rattle.index_pool.specs.Lane.{lane_numbers}
use Rattle.index_pool.specs.CoreMachine.{CoreState, core_start, queue_of, state_after, CoreStep, CoreRun}

-- a worker's step, at its own deque or at its neighbour's, with the number that it got
pub data LaneStep : Type 0 where
  Popped : (worker number : ℕ) → LaneStep
  PoppedNone : (worker : ℕ) → LaneStep
  Stole : (worker number : ℕ) → LaneStep
  StoleNone : (worker : ℕ) → LaneStep
  AskedAgain : (worker : ℕ) → LaneStep

abbrev pub worker_of : LaneStep → ℕ
worker_of (Popped u k) = u
worker_of (PoppedNone u) = u
worker_of (Stole u k) = u
worker_of (StoleNone u) = u
worker_of (AskedAgain u) = u

abbrev pub event_of : LaneStep → Event
event_of (Popped u k) = Pop u
event_of (PoppedNone u) = PopEmpty u
event_of (Stole u k) = Steal u
event_of (StoleNone u) = StealEmpty u
event_of (AskedAgain u) = StealRetry u

abbrev pub number_got : LaneStep → Option ℕ
number_got (Popped u k) = Some k
number_got (PoppedNone u) = None
number_got (Stole u k) = Some k
number_got (StoleNone u) = None
number_got (AskedAgain u) = None

-- what the deque of lane w asks of a step, by its queue: a number that is got is the first one, and none is got only
-- if there is none
abbrev pub DequeAllows : ℕ → ℕ → List ℕ → LaneStep → Type 0
DequeAllows lanes w q (Popped u k) = u ≡ w → q ≡ k ∷ drop 1 q
DequeAllows lanes w q (PoppedNone u) = u ≡ w → q ≡ []
DequeAllows lanes w q (Stole u k) = (u + 1) % lanes ≡ w → q ≡ k ∷ drop 1 q
DequeAllows lanes w q (StoleNone u) = (u + 1) % lanes ≡ w → q ≡ []
DequeAllows lanes w q (AskedAgain u) = ⊤

-- the queue of lane w after a step, which is the same if the step is at another deque
abbrev pub queue_left : ℕ → ℕ → List ℕ → LaneStep → List ℕ
queue_left lanes w q (Popped u k) = if u == w then drop 1 q else q
queue_left lanes w q (PoppedNone u) = q
queue_left lanes w q (Stole u k) = if ((u + 1) % lanes) == w then drop 1 q else q
queue_left lanes w q (StoleNone u) = q
queue_left lanes w q (AskedAgain u) = q

-- the deque of lane w allows these steps, one after the other, and has this queue after them
abbrev pub LaneAllows : ℕ → ℕ → List ℕ → List LaneStep → List ℕ → Type 0
LaneAllows lanes w q [] after = q ≡ after
LaneAllows lanes w q (e ∷ es) after = DequeAllows lanes w q e × LaneAllows lanes w (queue_left lanes w q e) es after

-- what worker w may do: it steals only if it has found its own lane empty
abbrev pub MayDo : ℕ → Bool → LaneStep → Type 0
MayDo w noted (Popped u k) = ⊤
MayDo w noted (PoppedNone u) = ⊤
MayDo w noted (Stole u k) = u ≡ w → noted ≡ true
MayDo w noted (StoleNone u) = u ≡ w → noted ≡ true
MayDo w noted (AskedAgain u) = u ≡ w → noted ≡ true

-- whether worker w has found its own lane empty, after a step
abbrev pub noted_after : ℕ → Bool → LaneStep → Bool
noted_after w noted (Popped u k) = noted
noted_after w noted (PoppedNone u) = if u == w then true else noted
noted_after w noted (Stole u k) = noted
noted_after w noted (StoleNone u) = noted
noted_after w noted (AskedAgain u) = noted

abbrev pub WorkerAllows : ℕ → Bool → List LaneStep → Type 0
WorkerAllows w noted [] = ⊤
WorkerAllows w noted (e ∷ es) = MayDo w noted e × WorkerAllows w (noted_after w noted e) es

-- the core machine makes these steps, each with the number that was got
abbrev pub CoreMakes : CoreState → List LaneStep → CoreState → Type 0
CoreMakes s [] t = s ≡ t
CoreMakes s (e ∷ es) t = CoreStep s (event_of e) (number_got e) (state_after s (event_of e))
    × CoreMakes (state_after s (event_of e)) es t

-- however the steps of the workers come after one another: if each deque, which has its lane's numbers at first, allows
-- those at it, and each worker its own, they are a run of the core machine once every number is seeded. Each step gets
-- the number that the core machine gives, and at the end the queues are the core machine's
abbrev pub LanesRunAsCore : Type 0
LanesRunAsCore = (inputs workers : ℕ) (steps : List LaneStep) (queues : ℕ → List ℕ) → 0 < workers
    → All (λ e. worker_of e < workers) steps
    → ((w : ℕ) → w < workers → LaneAllows workers w (lane_numbers inputs workers w) steps (queues w))
    → ((w : ℕ) → w < workers → WorkerAllows w false steps)
    → (seeded : CoreState) × (s : CoreState)
    × CoreRun (core_start inputs workers) (map Seed (range_with_len 0 inputs)) seeded × CoreMakes seeded steps s
    × CoreRun (core_start inputs workers) (map Seed (range_with_len 0 inputs) ++ map event_of steps) s
    × ((w : ℕ) → w < workers → queue_of s w ≡ queues w)
