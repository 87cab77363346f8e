-- Rows of numbers that rise, and binary search in them.
use Rattle.std.proofs.Common.{◌≡◌, ◌↔◌, inl, inr, ℕ, ◌<◌, ◌≤◌, List, length, get_or, Result, Ok, Err, eqb, refl, ap}
use Rattle.std.proofs.Common.{subst, arith, Decides, MatchResult}
use Rattle.std.specs.List.{Contains, IsDistinct}
use Rattle.std.specs.List.Sorted.{IsStrictlyIncreasing, IsPermutation, IsSorted, IsBinarySearchResult}
use Rattle.std.specs.Ordering.{nat_cmp}
use Rattle.std.specs.Result.{is_ok}
use Rattle.std.proofs.lemmas.Bool.{false≢true, cases_lt}
use Rattle.std.proofs.lemmas.Bool.Decides.{nat_tests}
use Rattle.std.proofs.lemmas.List.{get_or_default}
use Rattle.std.proofs.lemmas.List.Elements.{Contains-get_or}
use Rattle.std.proofs.lemmas.List.Sorted.{searched, Contains-permutation, IsPermutation-sym}
use Rattle.std.proofs.lemmas.List.Sorted.{IsNonDecreasingBy-from_sort}
use Rattle.std.proofs.lemmas.Map.Keys.{IsStrictlyIncreasing-from_distinct, IsDistinct-IsPermutation}
use Rattle.std.proofs.lemmas.Map.Keys.{sorted_from_strictly_increasing, below_from_sorted}

-- numbers that rise do not fall
pub not_falling : (xs : List ℕ) → IsStrictlyIncreasing xs → (i j : ℕ) → i ≤ j → j < length xs
    → get_or xs i 0 ≤ get_or xs j 0
not_falling xs rises i j h k = elim (cases_lt i j) [
  | inl less ↦ (let below = below_from_sorted xs i j 0 (sorted_from_strictly_increasing xs rises) less k in omega arith)
  | inr more ↦ (let same : i ≡ j = omega arith in
      let e : get_or xs i 0 ≡ get_or xs j 0 = ap (λ n. get_or xs n 0) same in omega arith)
]

is_absent : (xs : List ℕ) (x i : ℕ) → ((k : ℕ) → k < i → get_or xs k 0 < x)
    → ((k : ℕ) → i ≤ k → k < length xs → x < get_or xs k 0) → Contains xs x → ⊥
is_absent xs x i before behind found =
    let e = get_or_default xs found.0 x 0 found.1 in
    elim (cases_lt found.0 i) [
      | inl less ↦ (let b = before found.0 less in omega (arith, found.2, e))
      | inr more ↦ (let b = behind found.0 more found.1 in omega (arith, found.2, e))
    ]

pub decides_found : (xs : List ℕ) (x : ℕ) (r : Result ℕ ℕ)
    → MatchResult r (λ i. (i < length xs) × (get_or xs i 0 ≡ x))
    (λ i. (i ≤ length xs) × ((k : ℕ) → k < i → get_or xs k 0 < x)
    × ((k : ℕ) → i ≤ k → k < length xs → x < get_or xs k 0)) → Decides (is_ok r) (Contains xs x)
decides_found xs x (Ok i) h = (λ _. subst (Contains xs) h.1 (Contains-get_or xs i 0 h.0), λ _. refl)
decides_found xs x (Err i) h = (λ e. absurd (false≢true e), λ found. absurd (is_absent xs x i h.1 h.2 found))

-- what a binary search says of a rising row
pub decides_has : (xs : List ℕ) (x : ℕ) (r : Result ℕ ℕ) → IsStrictlyIncreasing xs
    → IsBinarySearchResult (λ y. nat_cmp y x) xs r → Decides (is_ok r) (Contains xs x)
decides_has xs x r rises h = decides_found xs x r (searched xs x r h (not_falling xs rises))

-- whether two numbers are equal
pub flips : (x y : ℕ) → eqb x y ≡ eqb y x
flips x y = grind (arith, nat_tests)

-- numbers that differ rise once they are sorted
pub rising_from_sort : (xs ys : List ℕ) → IsDistinct eqb xs → IsPermutation xs ys → IsSorted nat_cmp ys
    → IsStrictlyIncreasing ys
rising_from_sort xs ys distinct moved sorted =
    IsStrictlyIncreasing-from_distinct ys (IsNonDecreasingBy-from_sort (λ n. n) ys sorted)
    (IsDistinct-IsPermutation eqb flips xs ys moved distinct)

pub same_numbers : (xs ys : List ℕ) → IsPermutation xs ys → (number : ℕ) → Contains ys number ↔ Contains xs number
same_numbers xs ys moved number = (
  λ h. Contains-permutation ys xs number (IsPermutation-sym xs ys moved) h,
  λ h. Contains-permutation xs ys number moved h,
)
