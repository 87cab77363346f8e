-- Sums over the numbers below a bound, and how often a number stands in a list.
use Rattle.std.proofs.Common.{◌≡◌, ◌≢◌, ℕ, zero, suc, ◌+◌, ◌<◌, ◌≤◌, ◌==◌, List, [], ◌∷◌, ◌++◌, length, drop}
use Rattle.std.proofs.Common.{slice_index, sum_by, cond, nat_lt, if◌then◌else◌, refl, sym, ap, ◌∙◌, add-zero, zero-add}
use Rattle.std.proofs.Common.{add-one, arith}
use Rattle.std.proofs.lemmas.List.Sums.{sum_by-cons, sum_by_push}
use Rattle.std.proofs.lemmas.Bool.Decides.{nat_tests}
use Rattle.std.specs.List.{range_with_len}

-- 1 at one number, 0 elsewhere
abbrev pub only_at : ℕ → ℕ → ℕ
only_at number = λ x. cond (x == number) 1 0

range_more_from : (a n : ℕ) → range_with_len a (suc n) ≡ range_with_len a n ++ (a + n) ∷ []
range_more_from a zero = ap (λ m. m ∷ []) (sym (add-zero a))
range_more_from a (suc n) = let more = range_more_from (a + 1) n in let e : (a + 1) + n ≡ a + suc n = omega arith in
    ap (λ xs. a ∷ xs) (more ∙ ap (λ m. range_with_len (a + 1) n ++ m ∷ []) e)

pub range_more : (n : ℕ) → range_with_len 0 (n + 1) ≡ range_with_len 0 n ++ n ∷ []
range_more n = ap (range_with_len 0) (add-one n)
    ∙ (range_more_from 0 n ∙ ap (λ m. range_with_len 0 n ++ m ∷ []) (zero-add n))

pub sum_by-range_more : (h : ℕ → ℕ) (n : ℕ) → sum_by h (range_with_len 0 (n + 1)) ≡ sum_by h (range_with_len 0 n) + h n
sum_by-range_more h n = ap (sum_by h) (range_more n) ∙ sum_by_push h (range_with_len 0 n) n

pub one_more_below : (number n : ℕ)
    → (if nat_lt number n then 1 else 0) + only_at number n ≡ (if nat_lt number (n + 1) then 1 else 0)
one_more_below number n = grind (arith, nat_tests)

pub sum_only_at-range : (number n : ℕ)
    → sum_by (only_at number) (range_with_len 0 n) ≡ (if nat_lt number n then 1 else 0)
sum_only_at-range number zero = grind (arith, nat_tests)
sum_only_at-range number (suc n) = ap (λ m. sum_by (only_at number) (range_with_len 0 m)) (sym (add-one n))
    ∙ (sum_by-range_more (only_at number) n
    ∙ (ap (λ m. m + only_at number n) (sum_only_at-range number n)
    ∙ (one_more_below number n ∙ ap (λ m. if nat_lt number m then 1 else 0) (add-one n))))

-- each number weighs 1
pub weighed_one : (xs : List ℕ) → sum_by (λ _. 1) xs ≡ length xs
weighed_one [] = refl
weighed_one (x ∷ xs) = sum_by-cons (λ (_ : ℕ). 1) x xs ∙ (ap (λ n. 1 + n) (weighed_one xs) ∙ omega arith)

-- without its first number a list weighs less by that number's weight
pub sum_by-front : (h : ℕ → ℕ) (xs : List ℕ) → 0 < length xs → sum_by h (drop 1 xs) + h (slice_index xs 0) ≡ sum_by h xs
sum_by-front h [] some = absurd (omega arith)
sum_by-front h (x ∷ xs) some = let e = sum_by-cons h x xs in omega arith

pub only_at_own : (number : ℕ) → only_at number number ≡ 1
only_at_own number = grind (arith, nat_tests)

pub only_at_other : (number x : ℕ) → x ≢ number → only_at number x ≡ 0
only_at_other number x other = grind (arith, nat_tests)

pub below_from_one : (number n : ℕ) → 1 ≤ (if nat_lt number n then 1 else 0) → number < n
below_from_one number n one = grind (arith, nat_tests)

pub one_below : (number n : ℕ) → number < n → ◌≡◌ {A = ℕ} (if nat_lt number n then 1 else 0) 1
one_below number n below = grind (arith, nat_tests)
