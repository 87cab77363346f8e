-- The numbers that a lane is given.
use Rattle.std.proofs.Common.{◌≡◌, ◌≢◌, ℕ, zero, suc, ◌+◌, ◌*◌, ◌/◌, ◌%◌, ◌<◌, ◌≤◌, ◌==◌, Bool, List, [], ◌∷◌, ◌++◌}
use Rattle.std.proofs.Common.{length}
use Rattle.std.proofs.Common.{filter, cond, All, sum_by, nat_lt, if◌then◌else◌, zero-add, true, false, refl, sym, ap}
use Rattle.std.proofs.Common.{◌∙◌, subst, ⊎_elim, eq-eqb, ne_eqb, add-one, append-nil, arith}
use Rattle.std.proofs.lemmas.List.{length_push}
use Rattle.std.proofs.lemmas.List.Elements.{filter-append, All-filter, All-from_get_or}
use Rattle.std.proofs.lemmas.List.Sums.{sum_by_push, sum_by-append}
use Rattle.std.proofs.lemmas.List.Sorted.{sum_by-IsPermutation}
use Rattle.std.proofs.lemmas.List.FromFn.{length-range_with_len, get_or-range_with_len}
use Rattle.std.proofs.lemmas.Bool.Decides.{eqb_tells, nat_tests}
use Rattle.std.proofs.Math.Nat.{mul-le-mul_right, lt_of_mul-lt-mul_right, le-div_iff_mul-le}
use Rattle.std.specs.List.{range_with_len}
use Rattle.index_pool.specs.Lane.{lane_numbers, IsLane, LanesKeepTheirNumbers}
use Rattle.index_pool.proofs.OnceLemmas.{range_more, sum_by-range_more, only_at, only_at_other, one_more_below}
use Rattle.index_pool.proofs.OnceLemmas.{one_below, below_from_one}

-- the numbers of lane w of so many
module _ (lanes w : ℕ) where
  pub lane_none : lane_numbers 0 lanes w ≡ []
  unfolding lane_numbers
  lane_none = refl

  lane_more : (n : ℕ) → lane_numbers (n + 1) lanes w ≡ lane_numbers n lanes w ++ cond ((n % lanes) == w) (n ∷ []) []
  unfolding lane_numbers
  lane_more n = ap (filter (λ k. (k % lanes) == w)) (range_more n)
      ∙ filter-append (λ k. (k % lanes) == w) (range_with_len 0 n) (n ∷ [])

  pub lane_more_own : (n : ℕ) → n % lanes ≡ w → lane_numbers (n + 1) lanes w ≡ lane_numbers n lanes w ++ n ∷ []
  lane_more_own n own = lane_more n
      ∙ ap (λ (b : Bool). lane_numbers n lanes w ++ cond b (n ∷ []) []) (eq-eqb (n % lanes) w own)

  pub lane_more_other : (n : ℕ) → n % lanes ≢ w → lane_numbers (n + 1) lanes w ≡ lane_numbers n lanes w
  lane_more_other n other =
      lane_more n ∙ (ap (λ (b : Bool). lane_numbers n lanes w ++ cond b (n ∷ []) []) (ne_eqb (n % lanes) w other)
      ∙ append-nil (lane_numbers n lanes w))

  -- c numbers up to one that is the lane's own come before it
  before_own : (c n : ℕ) → n % lanes ≡ w → w < lanes → c * lanes + w + 1 ≤ n + lanes → c * lanes + w ≤ n
  before_own c n own within bound =
      let some : 0 < lanes = omega arith in
      let whole : lanes * (n / lanes) + n % lanes ≡ n = omega arith in
      let less : c * lanes < (n / lanes + 1) * lanes = omega arith in
      let below : c < n / lanes + 1 = lt_of_mul-lt-mul_right lanes less in
      let most : c * lanes ≤ (n / lanes) * lanes = mul-le-mul_right lanes (omega arith) in
      omega arith

  lane_spread : (n : ℕ) → w < lanes → length (lane_numbers n lanes w) * lanes + w + 1 ≤ n + lanes
  lane_spread zero within = subst (λ c. c * lanes + w + 1 ≤ 0 + lanes) (sym (ap length lane_none)) (omega arith)
  lane_spread (suc n) within =
      subst (λ m. length (lane_numbers m lanes w) * lanes + w + 1 ≤ m + lanes) (add-one n) (⊎_elim
      (λ (yes : (((n % lanes) == w) ≡ true) × (n % lanes ≡ w)).
      let before = before_own (length (lane_numbers n lanes w)) n yes.1 within (lane_spread n within) in
      let one_more : length (lane_numbers (n + 1) lanes w) ≡ length (lane_numbers n lanes w) + 1 =
      ap length (lane_more_own n yes.1) ∙ length_push (lane_numbers n lanes w) n in
      let P : ℕ → Type 0 = λ c. c * lanes + w + 1 ≤ n + 1 + lanes in
      subst P (sym one_more) (omega arith))
      (λ (no : (((n % lanes) == w) ≡ false) × (n % lanes ≢ w)).
      let P : ℕ → Type 0 = λ c. c * lanes + w + 1 ≤ n + 1 + lanes in
      let ih = lane_spread n within in
      subst P (ap length (sym (lane_more_other n no.1))) (omega arith))
      (eqb_tells (n % lanes) w))

  -- a number of the lane finds room in n / lanes + 1 slots
  pub lane_has_room : (n number : ℕ) → number < n → number % lanes ≡ w → w < lanes
      → length (lane_numbers number lanes w) < n / lanes + 1
  lane_has_room n number below own within =
      let a = before_own (length (lane_numbers number lanes w)) number own within (lane_spread number within) in
      let b : length (lane_numbers number lanes w) * lanes ≤ n = omega arith in
      let some : 0 < lanes = omega arith in
      let c : length (lane_numbers number lanes w) ≤ n / lanes = (le-div_iff_mul-le some).1 b in
      omega arith

-- the weights of the numbers of the first c lanes, added up
pub lanes_weight : (ℕ → ℕ) → ℕ → ℕ → ℕ → ℕ
lanes_weight h n lanes zero = 0
lanes_weight h n lanes (suc c) = lanes_weight h n lanes c + sum_by h (lane_numbers n lanes c)

pub lanes_weight_more : (h : ℕ → ℕ) (n lanes c : ℕ)
    → lanes_weight h n lanes (c + 1) ≡ lanes_weight h n lanes c + sum_by h (lane_numbers n lanes c)
unfolding lanes_weight
lanes_weight_more h n lanes c = rw add-one refl

pub lanes_weight_one : (h : ℕ → ℕ) (n lanes : ℕ) → lanes_weight h n lanes 1 ≡ sum_by h (lane_numbers n lanes 0)
unfolding lanes_weight
lanes_weight_one h n lanes = zero-add _

-- one more number goes to one lane
one_number_more : (h : ℕ → ℕ) (n lanes c : ℕ)
    → lanes_weight h (n + 1) lanes c ≡ lanes_weight h n lanes c + (if nat_lt (n % lanes) c then h n else 0)
unfolding lanes_weight
one_number_more h n lanes zero = grind (arith, nat_tests)
one_number_more h n lanes (suc c) = ⊎_elim
    (λ (yes : (((n % lanes) == c) ≡ true) × (n % lanes ≡ c)).
    let a = one_number_more h n lanes c in
    let b = ap (sum_by h) (lane_more_own lanes c n yes.1) ∙ sum_by_push h (lane_numbers n lanes c) n in
    let out : (if nat_lt (n % lanes) c then h n else 0) ≡ 0 = grind (arith, nat_tests) in
    let in' : (if nat_lt (n % lanes) (suc c) then h n else 0) ≡ h n = grind (arith, nat_tests) in omega arith)
    (λ (no : (((n % lanes) == c) ≡ false) × (n % lanes ≢ c)).
    let a = one_number_more h n lanes c in
    let b = ap (sum_by h) (lane_more_other lanes c n no.1) in
    let other = no.1 in
    let same : (if nat_lt (n % lanes) (suc c) then h n else 0) ≡ (if nat_lt (n % lanes) c then h n else 0) =
    grind (arith, nat_tests) in omega arith)
    (eqb_tells (n % lanes) c)

no_numbers : (h : ℕ → ℕ) (lanes c : ℕ) → lanes_weight h 0 lanes c ≡ 0
unfolding lanes_weight
no_numbers h lanes zero = refl
no_numbers h lanes (suc c) = let a = no_numbers h lanes c in let b = ap (sum_by h) (lane_none lanes c) in omega arith

-- the lanes share the numbers below n
pub lanes_cover : (h : ℕ → ℕ) (n lanes : ℕ) → 0 < lanes → lanes_weight h n lanes lanes ≡ sum_by h (range_with_len 0 n)
lanes_cover h zero lanes some = no_numbers h lanes lanes
lanes_cover h (suc n) lanes some =
    let a = lanes_cover h n lanes some in
    let b = one_number_more h n lanes lanes in
    let c = sum_by-range_more h n in
    let within : n % lanes < lanes = omega arith in
    let d : (if nat_lt (n % lanes) lanes then h n else 0) ≡ h n = grind (arith, nat_tests) in
    let e : lanes_weight h (n + 1) lanes lanes ≡ sum_by h (range_with_len 0 (n + 1)) = omega arith in
    subst (λ m. lanes_weight h m lanes lanes ≡ sum_by h (range_with_len 0 m)) (add-one n) e

pub lane_below : (n lanes w : ℕ) → All (λ k. k < n) (lane_numbers n lanes w)
unfolding lane_numbers
lane_below n lanes w = All-filter (λ k. (k % lanes) == w) (λ k. k < n) (range_with_len 0 n)
    (All-from_get_or (λ k. k < n) (range_with_len 0 n) 0 (λ i within. (
    let count = length-range_with_len 0 n in
    let below : i < n = omega arith in
    subst (λ k. k < n) (sym (get_or-range_with_len 0 n i 0 below)) (omega arith))))

-- how often the numbers of lane w have a number
module _ (lanes w k : ℕ) where
  times_of_own : (n : ℕ) → k % lanes ≡ w
      → sum_by (only_at k) (lane_numbers n lanes w) ≡ (if nat_lt k n then 1 else 0)
  times_of_own zero own = ap (sum_by (only_at k)) (lane_none lanes w) ∙ grind (arith, nat_tests)
  times_of_own (suc n) own =
      subst (λ m. sum_by (only_at k) (lane_numbers m lanes w) ≡ (if nat_lt k m then 1 else 0)) (add-one n) (⊎_elim
      (λ (yes : (((n % lanes) == w) ≡ true) × (n % lanes ≡ w)).
      let a = times_of_own n own in
      let b = ap (sum_by (only_at k)) (lane_more_own lanes w n yes.1)
      ∙ sum_by_push (only_at k) (lane_numbers n lanes w) n in
      let c = one_more_below k n in omega arith)
      (λ (no : (((n % lanes) == w) ≡ false) × (n % lanes ≢ w)).
      let a = times_of_own n own in
      let b = ap (sum_by (only_at k)) (lane_more_other lanes w n no.1) in
      let c = one_more_below k n in
      let d = only_at_other k n (λ same. no.1 (ap (λ x. x % lanes) same ∙ own)) in omega arith)
      (eqb_tells (n % lanes) w))

  times_of_other : (n : ℕ) → k % lanes ≢ w → sum_by (only_at k) (lane_numbers n lanes w) ≡ 0
  times_of_other zero other = ap (sum_by (only_at k)) (lane_none lanes w)
  times_of_other (suc n) other =
      subst (λ m. sum_by (only_at k) (lane_numbers m lanes w) ≡ 0) (add-one n) (⊎_elim
      (λ (yes : (((n % lanes) == w) ≡ true) × (n % lanes ≡ w)).
      let a = times_of_other n other in
      let b = ap (sum_by (only_at k)) (lane_more_own lanes w n yes.1)
      ∙ sum_by_push (only_at k) (lane_numbers n lanes w) n in
      let d = only_at_other k n (λ same. other (ap (λ x. x % lanes) (sym same) ∙ yes.1)) in omega arith)
      (λ (no : (((n % lanes) == w) ≡ false) × (n % lanes ≢ w)).
      ap (sum_by (only_at k)) (lane_more_other lanes w n no.1) ∙ times_of_other n other)
      (eqb_tells (n % lanes) w))

-- the three lists of a lane weigh what it was given
lane_weight : (h : ℕ → ℕ) (given queue popped stolen : List ℕ) → IsLane given queue popped stolen
    → sum_by h (queue ++ (popped ++ stolen)) ≡ sum_by h given
lane_weight h given queue popped stolen l =
    let a = sum_by-append h queue (popped ++ stolen) in
    let b = sum_by-IsPermutation h l.0 (popped ++ stolen) l.2 in
    let c = ap (sum_by h) l.1 ∙ sum_by-append h l.0 queue in omega arith

pub keeps_its_numbers : LanesKeepTheirNumbers
keeps_its_numbers n lanes w queue popped stolen l = record {
  own = λ k below is. (lane_weight (only_at k) (lane_numbers n lanes w) queue popped stolen l
      ∙ (times_of_own lanes w k n is ∙ one_below k n below));
  no_other = λ k some. (
      let all = lane_weight (only_at k) (lane_numbers n lanes w) queue popped stolen l in
      let held : 0 < sum_by (only_at k) (queue ++ (popped ++ stolen)) = some in
      ⊎_elim
      (λ (yes : (((k % lanes) == w) ≡ true) × (k % lanes ≡ w)).
      let own = times_of_own lanes w k n yes.1 in (below_from_one k n (omega arith), yes.1))
      (λ (no : (((k % lanes) == w) ≡ false) × (k % lanes ≢ w)).
      let none = times_of_other lanes w k n no.1 in absurd (omega arith))
      (eqb_tells (k % lanes) w));
  last = (l.0, l.1);
}
