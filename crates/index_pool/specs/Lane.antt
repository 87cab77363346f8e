-- One lane: the deque of one worker, what that worker popped, and what the worker whose neighbour it is stole.
use Rattle.std.specs.Prelude.{◌≡◌, ℕ, ◌%◌, ◌<◌, ◌⊎◌, Bool, true, List, [], ◌∷◌, ◌++◌, filter, ◌==◌}
use Rattle.std.specs.List.{range_with_len}
use Rattle.std.specs.List.Sorted.{IsPermutation}
use mathlib.Core.Option.{some}
use lib.ListN.{get_elem?}
use Rattle.index_pool.specs.Once.{times}
use Rattle.index_pool.specs.declared.lanes.rule.LaneView.{LaneView}

-- those of the numbers below n that lane w of this many lanes gets, rising
unfoldable pub lane_numbers : ℕ → ℕ → ℕ → List ℕ
lane_numbers n lanes w = filter (λ k. (k % lanes) == w) (range_with_len 0 n)

-- the rule of a lane: the last ones of the numbers given are in the queue, in order, and each of the others was popped
-- or stolen, once
abbrev pub IsLane : List ℕ → List ℕ → List ℕ → List ℕ → Type 0
IsLane given queue popped stolen = (gone : List ℕ) × (given ≡ gone ++ queue) × IsPermutation gone (popped ++ stolen)

-- of the numbers of lane w, each is in the queue, popped or stolen, once, and no other number is; and the queue has the
-- last ones of them, rising
pub record KeepsItsNumbers (n lanes w : ℕ) (queue popped stolen : List ℕ) : Type 0 where
  pub own : (k : ℕ) → k < n → k % lanes ≡ w → times k (queue ++ (popped ++ stolen)) ≡ 1
  pub no_other : (k : ℕ) → 0 < times k (queue ++ (popped ++ stolen)) → (k < n) × (k % lanes ≡ w)
  pub last : (gone : List ℕ) × (lane_numbers n lanes w ≡ gone ++ queue)

-- so it is by the rule of a lane that was given its numbers
abbrev pub LanesKeepTheirNumbers : Type 0
LanesKeepTheirNumbers = (n lanes w : ℕ) (queue popped stolen : List ℕ)
    → IsLane (lane_numbers n lanes w) queue popped stolen → KeepsItsNumbers n lanes w queue popped stolen

-- where of the same numbers given one more was popped, or one more stolen, it was the queue's first, and no other has
-- left the queue
abbrev pub GivesItsFirst : Type 0
GivesItsFirst = (given queue left popped stolen : List ℕ) (k : ℕ) → IsLane given queue popped stolen
    → IsLane given left (popped ++ k ∷ []) stolen ⊎ IsLane given left popped (stolen ++ k ∷ []) → queue ≡ k ∷ left

-- what a party of a deque knows: whether it is the owner's, whether it is the thief's, what the deque was given, and
-- what it popped and stole
abbrev pub lane_view : Bool → Bool → List ℕ → List ℕ → List ℕ → LaneView
lane_view owns steals given popped stolen =
    record { owns = owns; steals = steals; given = given; popped = popped; stolen = stolen }

-- the queue of a lane at one moment, as its owner knows it: by the rule, with what the thief has stolen by then, which
-- the owner knows if it is the thief too
abbrev pub OwnerFinds : LaneView → List ℕ → Type 0
OwnerFinds v queue =
    (stolen : List ℕ) × IsLane v.given queue v.popped stolen × (v.steals ≡ true → stolen ≡ v.stolen)

-- the same as its thief knows it: by the rule, with what the owner has popped by then
abbrev pub ThiefFinds : LaneView → List ℕ → Type 0
ThiefFinds v queue = (popped : List ℕ) × IsLane v.given queue popped v.stolen

-- the changes of a view that a step at the deque makes: more was given, popped or stolen
abbrev pub more_given : LaneView → List ℕ → LaneView
more_given v xs = lane_view v.owns v.steals (v.given ++ xs) v.popped v.stolen

abbrev pub more_popped : LaneView → List ℕ → LaneView
more_popped v xs = lane_view v.owns v.steals v.given (v.popped ++ xs) v.stolen

abbrev pub more_stolen : LaneView → List ℕ → LaneView
more_stolen v xs = lane_view v.owns v.steals v.given v.popped (v.stolen ++ xs)

-- only one party's view is the owner's, and only one the thief's, and these two have the lane's lists
abbrev pub Fits : ℕ → ℕ → List ℕ → List ℕ → List ℕ → ℕ → LaneView → Type 0
Fits owner thief given popped stolen party v =
    (v.owns ≡ true → (party ≡ owner) × (v.given ≡ given) × (v.popped ≡ popped))
    × (v.steals ≡ true → (party ≡ thief) × (v.given ≡ given) × (v.stolen ≡ stolen))

-- the rule of a deque: what it holds and what its parties know are a lane
abbrev pub HoldsLane : List ℕ → List LaneView → Type 0
HoldsLane queue views = (owner : ℕ) × (thief : ℕ) × (given : List ℕ) × (popped : List ℕ) × (stolen : List ℕ)
    × IsLane given queue popped stolen
    × ((party : ℕ) (v : LaneView) → get_elem? views party ≡ some v → Fits owner thief given popped stolen party v)
