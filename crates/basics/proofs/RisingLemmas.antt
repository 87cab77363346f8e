-- Lists along which a number of each element doesn't fall.
use Rattle.std.proofs.Common.{◌≡◌, ℕ, zero, suc, ◌≤◌, ◌<◌, Bool, true, false, List, [], ◌∷◌, ◌++◌, length, map, get_or}
use Rattle.std.proofs.Common.{refl, sym, subst, arith}
use Rattle.std.specs.List.{filter}
use Rattle.std.specs.List.Sorted.{IsNonDecreasingBy}

abbrev pub IsRising : {N : Type 0} → (N → ℕ) → ℕ → List N → Type 0
IsRising key low [] = Unit {0}
IsRising key low (x ∷ xs) = (low ≤ key x) × IsRising key (key x) xs

pub rising_from_less : {N : Type 0} (key : N → ℕ) (low high : ℕ) (xs : List N) → low ≤ high → IsRising key high xs
    → IsRising key low xs
rising_from_less key low high [] le rising = tt
rising_from_less key low high (x ∷ xs) le rising = (omega (arith, rising.0), rising.1)

-- in front of a list those with one number
pub rising_same : {N : Type 0} (key : N → ℕ) (n : ℕ) (f : ℕ → N) → ((k : ℕ) → key (f k) ≡ n)
    → (ks : List ℕ) (rest : List N) → IsRising key n rest → IsRising key n (map f ks ++ rest)
rising_same key n f same [] rest rising = rising
rising_same key n f same (k ∷ ks) rest rising = (
  omega (arith, same k),
  subst (λ m. IsRising key m (map f ks ++ rest)) (sym (same k))
      (rising_same key n f same ks rest rising),
)

rising_filter : {N : Type 0} (key : N → ℕ) (p : N → Bool) (low : ℕ) (xs : List N) → IsRising key low xs
    → IsRising key low (filter p xs)
rising_filter key p low [] rising = tt
rising_filter key p low (x ∷ xs) rising = by (rising_filter key p (key x) xs rising.1) (p x) refl where
  by : IsRising key (key x) (filter p xs) → (b : Bool) → p x ≡ b → IsRising key low (filter p (x ∷ xs))
  by rest true passes = rw passes (rising.0, rest)
  by rest false fails = rw fails (rising_from_less key low (key x) (filter p xs) rising.0 rest)

rising_all : {N : Type 0} (key : N → ℕ) (low : ℕ) (xs : List N) → IsRising key low xs → (j : ℕ) (d : N) → j < length xs
    → low ≤ key (get_or xs j d)
rising_all key low [] rising j d inside = absurd (omega arith)
rising_all key low (x ∷ xs) rising zero d inside = rising.0
rising_all key low (x ∷ xs) rising (suc j) d inside =
    omega (arith, rising.0, rising_all key (key x) xs rising.1 j d (omega arith))

nondecreasing : {N : Type 0} (key : N → ℕ) (low : ℕ) (xs : List N) → IsRising key low xs → IsNonDecreasingBy key xs
nondecreasing key low [] rising i j d before inside = absurd (omega arith)
nondecreasing key low (x ∷ xs) rising zero zero d before inside = omega arith
nondecreasing key low (x ∷ xs) rising zero (suc j) d before inside =
    rising_all key (key x) xs rising.1 j d (omega arith)
nondecreasing key low (x ∷ xs) rising (suc i) zero d before inside = absurd (omega arith)
nondecreasing key low (x ∷ xs) rising (suc i) (suc j) d before inside =
    nondecreasing key (key x) xs rising.1 i j d (omega arith) (omega arith)

-- it doesn't fall along those that pass a test either
pub rising_filtered : {N : Type 0} (key : N → ℕ) (p : N → Bool) (low : ℕ) (xs : List N) → IsRising key low xs
    → IsNonDecreasingBy key (filter p xs)
rising_filtered key p low xs rising = nondecreasing key low (filter p xs) (rising_filter key p low xs rising)
