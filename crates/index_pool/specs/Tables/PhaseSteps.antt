-- What the parts of a phase do: what a worker ran, what a level of the recursion gathers, and how the results are put
-- in order.
use Rattle.std.specs.Prelude.{⊤, ◌≡◌, ℕ, ◌+◌, ◌<◌, ◌≤◌, true, false, List, [], length, map, All, Contains, sum_by}
use Rattle.std.specs.Prelude.{Option, Some, slice_get}
use Rattle.index_pool.specs.declared.lanes.ends.LaneOwner.{LaneOwner}
use Rattle.index_pool.specs.declared.lanes.ends.LaneThief.{LaneThief}
use Rattle.index_pool.specs.declared.phase.worker.Ran.{Ran}
use Rattle.index_pool.specs.declared.phase.worker.Post.{Post}
use Rattle.index_pool.specs.declared.phase.worker.Done.{Done}
use Rattle.index_pool.specs.declared.phase.levels.Gathered.{Gathered}
use Rattle.index_pool.specs.declared.phase.fault.Stop.{Stop}
use Rattle.index_pool.specs.declared.phase.fault.Stop.TheVariants.{Lanes, Spawn, Memory}
use Rattle.index_pool.specs.Once.{HasEachOnceBelow}
use Rattle.index_pool.specs.Lane.{lane_view}
use Rattle.index_pool.specs.LaneEnds.{owner_view, owner_deque, found_empty, thief_view, thief_deque, tries_left}

abbrev pub AllBelow : ℕ → List ℕ → Type 0
AllBelow n numbers = All (λ k. k < n) numbers

-- an end of a lane from which nothing was taken yet, whose numbers are below n; the thief has all its tries
abbrev pub FreshOwner : ℕ → LaneOwner → Type 0
FreshOwner n o = (owner_view o ≡ lane_view true false (owner_view o).given [] []) × AllBelow n (owner_view o).given

abbrev pub FreshThief : ℕ → LaneThief → Type 0
FreshThief n t = (thief_view t ≡ lane_view false true (thief_view t).given [] []) × AllBelow n (thief_view t).given
    × (tries_left t ≡ 64)

abbrev pub FreshLane : ℕ → LaneOwner × LaneThief → Type 0
FreshLane n l = FreshOwner n l.0 × FreshThief n l.1 × (thief_deque l.1 ≡ owner_deque l.0)

abbrev pub FreshPost : ℕ → Post → Type 0
FreshPost n p = FreshOwner n p.owner × FreshThief n p.thief

-- the same end, which has popped more, or has stolen more
abbrev pub PoppedMore : LaneOwner → LaneOwner → Type 0
PoppedMore old new = (owner_deque new ≡ owner_deque old)
    × (owner_view new ≡ lane_view true (owner_view old).steals (owner_view old).given (owner_view new).popped
    (owner_view old).stolen)

abbrev pub StoleMore : LaneThief → LaneThief → Type 0
StoleMore old new = (thief_deque new ≡ thief_deque old)
    × (thief_view new ≡ lane_view (thief_view old).owns true (thief_view old).given (thief_view old).popped
    (thief_view new).stolen)

-- each result is one that the job may give for its number
abbrev pub AllGiven : {A : Type 0} → (ℕ → A → Type 0) → List (Ran A) → Type 0
AllGiven gives rs = All (λ r. gives r.number r.answer) rs

-- the weights of the results' numbers, added up
abbrev pub weight : {A : Type 0} → (ℕ → ℕ) → List (Ran A) → ℕ
weight h rs = sum_by (λ r. h r.number) rs

-- what a worker brings back: the ends of its post, its own lane found empty, and, unless it lacked memory, no try left
-- at its neighbour's and a result for each number that it took
pub record Worked {A : Type 0} (gives : ℕ → A → Type 0) (post : Post) (done : Done A) : Type 0 where
  pub owner : PoppedMore post.owner done.post.owner
  pub thief : StoleMore post.thief done.post.thief
  pub emptied : found_empty done.post.owner ≡ true
  pub tried : done.starved ≡ false → tries_left done.post.thief ≡ 0
  pub answers : AllGiven gives done.results.items
  pub weighed : done.starved ≡ false → (h : ℕ → ℕ)
      → weight h done.results.items
      ≡ sum_by h (owner_view done.post.owner).popped + sum_by h (thief_view done.post.thief).stolen

-- what a level of the recursion gathers: a result for each number that the calling thread popped, that the thief at
-- hand stole, and that the lanes above were given
pub record Gathers {A : Type 0} (gives : ℕ → A → Type 0) (post : Post) (lanes : List (LaneOwner × LaneThief))
    (all : Gathered A) : Type 0 where
  pub owner : PoppedMore post.owner all.post.owner
  pub thief : StoleMore post.thief all.post.thief
  pub answers : AllGiven gives all.results.items
  pub weighed : (h : ℕ → ℕ)
      → weight h all.results.items
      ≡ (sum_by h (owner_view all.post.owner).popped + sum_by h (thief_view all.post.thief).stolen)
      + sum_by (λ l. sum_by h (owner_view l.0).given) lanes

-- what is left when a worker was joined, and its lane was popped until it was empty: all results, and the post of the
-- calling thread with the thief that the worker had
pub record Settles {A : Type 0} (gives : ℕ → A → Type 0) (done : Done A) (rest all : Gathered A) : Type 0 where
  pub owner : all.post.owner ≡ rest.post.owner
  pub thief : all.post.thief ≡ done.post.thief
  pub fed : done.starved ≡ false
  pub answers : AllGiven gives done.results.items → AllGiven gives rest.results.items → AllGiven gives all.results.items
  pub weighed : (h : ℕ → ℕ)
      → weight h all.results.items
      + (sum_by h (owner_view done.post.owner).popped + sum_by h (thief_view rest.post.thief).stolen)
      ≡ (weight h done.results.items + weight h rest.results.items) + sum_by h (owner_view done.post.owner).given

-- why nothing is gathered from these further lanes, if so many threads may be started: a thread is refused only if
-- one is to be started, and then the calling thread's own lane was found empty; memory is told only if all were
-- started
abbrev pub MayStop : Post → ℕ → ℕ → Stop → Type 0
MayStop post lanes starts Lanes = ⊥
MayStop post lanes starts (Spawn owner) =
    (0 < lanes) × (owner_deque owner ≡ owner_deque post.owner) × (found_empty owner ≡ true)
MayStop post lanes starts Memory = lanes ≤ starts

-- why there are no results, if so many threads may be started: a thread is refused only for two workers or more; room
-- for the lanes may be refused; and memory is told otherwise only if all threads were started
abbrev pub MayEnd : ℕ → ℕ → Stop → Type 0
MayEnd workers starts Lanes = ⊤
MayEnd workers starts (Spawn owner) = 1 < workers
MayEnd workers starts Memory = workers ≤ starts + 1

-- the inputs' numbers of the results
abbrev pub numbers_of : {A : Type 0} → List (Ran A) → List ℕ
numbers_of rs = map (λ r. r.number) rs

-- results for the numbers below n, one for each
abbrev pub RanEach : {A : Type 0} → (ℕ → A → Type 0) → ℕ → List (Ran A) → Type 0
RanEach gives n rs = AllGiven gives rs × HasEachOnceBelow n (numbers_of rs)

-- the result a for number k is among the results
abbrev pub IsAmong : {A : Type 0} → List (Ran A) → ℕ → A → Type 0
IsAmong rs k a = Contains rs (record { number = k; answer = a })

-- n slots, each with a result that is among the results for its number
abbrev pub IsFilled : {A : Type 0} → (ℕ → A → Type 0) → ℕ → List (Option A) → Type 0
IsFilled {A} among n slots =
    (length slots ≡ n) × ((k : ℕ) → k < n → (a : A) × (slice_get slots k ≡ Some (Some a)) × among k a)

-- each slot has a result
abbrev pub IsFull : {A : Type 0} → List (Option A) → Type 0
IsFull {A} slots = (k : ℕ) → k < length slots → (a : A) × (slice_get slots k ≡ Some (Some a))

-- slot k has the result a
abbrev pub HasResult : {A : Type 0} → List (Option A) → ℕ → A → Type 0
HasResult slots k a = slice_get slots k ≡ Some (Some a)
