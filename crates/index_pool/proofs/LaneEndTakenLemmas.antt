-- One number more that was taken from a lane, and one result more.
use Rattle.std.proofs.Common.{◌≡◌, ℕ, ◌+◌, ◌<◌, ◌-◌, true, false, true≢false, List, [], ◌∷◌, ◌++◌, length, sum_by, sym}
use Rattle.std.proofs.Common.{ap, ◌∙◌, subst, arith}
use Rattle.std.specs.Prelude.{Result, Ok, Err, OnOk}
use Rattle.std.specs.Result.{is_err}
use Rattle.std.specs.List.Sorted.{IsPermutation}
use Rattle.std.proofs.lemmas.List.{length_push}
use Rattle.std.proofs.lemmas.List.Sums.{sum_by_push}
use Rattle.std.proofs.lemmas.List.Elements.{All-same, All-push}
use Rattle.index_pool.specs.declared.lanes.ends.LaneOwner.{LaneOwner}
use Rattle.index_pool.specs.declared.lanes.ends.LaneThief.{LaneThief}
use Rattle.index_pool.specs.declared.lanes.rule.LaneView.{LaneView}
use Rattle.index_pool.specs.declared.phase.worker.Ran.{Ran}
use Rattle.index_pool.specs.Lane.{lane_view, more_popped, more_stolen}
use Rattle.index_pool.specs.LaneEnds.{owner_view, owner_deque, thief_view, thief_deque}
use Rattle.index_pool.specs.Tables.PhaseSteps.{PoppedMore, StoleMore, AllGiven, weight}

pub popped_one : (old mid new : LaneOwner) (k : ℕ) → PoppedMore old mid → owner_deque new ≡ owner_deque mid
    → owner_view new ≡ more_popped (owner_view mid) (k ∷ []) → PoppedMore old new
popped_one old mid new k popped same one = (
  same ∙ popped.0,
  one ∙ (ap (λ (v : LaneView). more_popped v (k ∷ [])) popped.1
      ∙ ap (λ (p : List ℕ). lane_view true (owner_view old).steals (owner_view old).given p (owner_view old).stolen)
      (sym (ap (λ (v : LaneView). v.popped) one))),
)

pub stole_one : (old mid new : LaneThief) (k : ℕ) → StoleMore old mid → thief_deque new ≡ thief_deque mid
    → thief_view new ≡ more_stolen (thief_view mid) (k ∷ []) → StoleMore old new
stole_one old mid new k stole same one = (
  same ∙ stole.0,
  one ∙ (ap (λ (v : LaneView). more_stolen v (k ∷ [])) stole.1
      ∙ ap (λ (s : List ℕ). lane_view (thief_view old).owns true (thief_view old).given (thief_view old).popped s)
      (sym (ap (λ (v : LaneView). v.stolen) one))),
)

-- fewer numbers are left to pop
pub fewer_left : (mid new : LaneOwner) (k : ℕ) → owner_view new ≡ more_popped (owner_view mid) (k ∷ [])
    → length (owner_view mid).popped < length (owner_view mid).given
    → length (owner_view new).given - length (owner_view new).popped
    < length (owner_view mid).given - length (owner_view mid).popped
fewer_left mid new k one room =
    let a = ap (λ (v : LaneView). length v.given) one in
    let b = ap (λ (v : LaneView). length v.popped) one in
    let d = length_push (owner_view mid).popped k in omega (arith, room)

-- a lane that was found empty is popped and stolen as a whole
pub left_whole : (old mid new : LaneOwner) → PoppedMore old mid → owner_view new ≡ owner_view mid
    → ((owner_view mid).steals ≡ true
    → IsPermutation (owner_view mid).given ((owner_view mid).popped ++ (owner_view mid).stolen))
    → (owner_view old).steals ≡ true
    → IsPermutation (owner_view old).given ((owner_view new).popped ++ (owner_view old).stolen)
left_whole old mid new popped none whole steals =
    let p = whole (ap (λ (v : LaneView). v.steals) popped.1 ∙ steals) in
    let q = subst (λ (l : List ℕ). IsPermutation (owner_view mid).given (l ++ (owner_view mid).stolen))
    (sym (ap (λ (v : LaneView). v.popped) none)) p in
    subst (λ (v : LaneView). IsPermutation v.given ((owner_view new).popped ++ v.stolen)) popped.1 q

module _ {A : Type 0} (rs more : List (Ran A)) (r : Ran A) (items : more ≡ rs ++ r ∷ []) where
  pub given_one : (gives : ℕ → A → Type 0) → AllGiven gives rs → gives r.number r.answer → AllGiven gives more
  given_one gives all given =
      All-same (λ (q : Ran A). gives q.number q.answer) more _ items
      (All-push (λ (q : Ran A). gives q.number q.answer) rs r all given)

  pub weighs_one : (h : ℕ → ℕ) (taken new : List ℕ) (before due : ℕ) → new ≡ taken ++ r.number ∷ []
      → weight h rs + before ≡ due + sum_by h taken → weight h more + before ≡ due + sum_by h new
  weighs_one h taken new before due one weighed =
      let a = ap (weight h) items in
      let b = sum_by_push (λ (q : Ran A). h q.number) rs r in
      let d = ap (sum_by h) one in
      let e = sum_by_push h taken r.number in omega (arith, weighed)

-- what holds at an answer that is no error
pub at_ok : {X E : Type 0} {P : Type 0} (r : Result X E) → OnOk r P → is_err r ≡ false → P
at_ok (Ok x) p e = p
at_ok (Err f) p e = absurd (true≢false e)
