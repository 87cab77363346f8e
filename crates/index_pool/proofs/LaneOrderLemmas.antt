-- A lane gives its numbers in order.
use Rattle.std.proofs.Common.{◌≡◌, ◌≢◌, ℕ, ◌+◌, ◌==◌, true, false, List, [], ◌∷◌, ◌++◌, length, drop, slice_index}
use Rattle.std.proofs.Common.{sum_by, refl, sym, ap, ◌∙◌, ⊎_elim, arith}
use Rattle.std.specs.List.Sorted.{IsPermutation}
use Rattle.std.proofs.lemmas.List.Sorted.{sum_by-IsPermutation}
use Rattle.std.proofs.lemmas.List.Sums.{sum_by-append, sum_by_push}
use Rattle.std.proofs.lemmas.Bool.Decides.{eqb_tells}
use Rattle.index_pool.specs.Lane.{IsLane, GivesItsFirst}
use Rattle.index_pool.proofs.OnceLemmas.{only_at, only_at_own, only_at_other, weighed_one}

-- two fronts of one list, of which the second has one number more
one_longer : (gone more queue left : List ℕ) → gone ++ queue ≡ more ++ left → length more ≡ length gone + 1
    → (x : ℕ) × (more ≡ gone ++ x ∷ []) × (queue ≡ x ∷ left)
one_longer [] [] queue left same long = absurd (omega arith)
one_longer [] (y ∷ []) queue left same long = (y, refl, same)
one_longer [] (y ∷ z ∷ zs) queue left same long = absurd (omega arith)
one_longer (x ∷ xs) [] queue left same long = absurd (omega arith)
one_longer (x ∷ xs) (y ∷ ys) queue left same long =
    let rest = one_longer xs ys queue left (ap (drop 1) same) (omega arith) in
    let first : y ≡ x = sym (ap (λ l. slice_index l 0) same) in
    (rest.0, ap (λ l. y ∷ l) rest.1 ∙ ap (λ n. n ∷ (xs ++ rest.0 ∷ [])) first, rest.2)

same_number : (k x : ℕ) → only_at k x ≡ 1 → x ≡ k
same_number k x one = ⊎_elim (λ (yes : ((x == k) ≡ true) × (x ≡ k)). yes.1)
    (λ (no : ((x == k) ≡ false) × (x ≢ k)). absurd (let none = only_at_other k x no.1 in omega arith))
    (eqb_tells x k)

-- some last part of the numbers given, behind these
abbrev IsLeft : List ℕ → List ℕ → List ℕ → Type 0
IsLeft given left ys = (gone : List ℕ) × (given ≡ gone ++ left) × IsPermutation gone ys

first_of : (given queue left xs ys : List ℕ) (k : ℕ) → ((h : ℕ → ℕ) → sum_by h ys ≡ sum_by h xs + h k)
    → IsLeft given queue xs → IsLeft given left ys → queue ≡ k ∷ left
first_of given queue left xs ys k more a b =
    let weighs : (h : ℕ → ℕ) → sum_by h b.0 ≡ sum_by h a.0 + h k =
    λ h. (let was = sum_by-IsPermutation h a.0 xs a.2 in
    let is = sum_by-IsPermutation h b.0 ys b.2 in let one = more h in omega arith) in
    let long : length b.0 ≡ length a.0 + 1 =
    (let one : sum_by (λ (_ : ℕ). 1) b.0 ≡ sum_by (λ (_ : ℕ). 1) a.0 + 1 = weighs (λ _. 1) in
    let was = weighed_one a.0 in let is = weighed_one b.0 in omega arith) in
    let split = one_longer a.0 b.0 queue left (sym a.1 ∙ b.1) long in
    let x = split.0 in
    let one : only_at k x ≡ 1 =
    (let all = weighs (only_at k) in let own = only_at_own k in let push = sum_by_push (only_at k) a.0 x in
    let is = ap (sum_by (only_at k)) split.1 in omega arith) in
    split.2 ∙ ap (λ n. n ∷ left) (same_number k x one)

pub gives_its_first : GivesItsFirst
gives_its_first given queue left popped stolen k a = ⊎_elim
    (λ (b : IsLane given left (popped ++ k ∷ []) stolen). first_of given queue left (popped ++ stolen)
    ((popped ++ k ∷ []) ++ stolen) k
    (λ h. (let was = sum_by-append h popped stolen in let push = sum_by_push h popped k in
    let is = sum_by-append h (popped ++ k ∷ []) stolen in omega arith)) a b)
    (λ (b : IsLane given left popped (stolen ++ k ∷ [])). first_of given queue left (popped ++ stolen)
    (popped ++ (stolen ++ k ∷ [])) k
    (λ h. (let was = sum_by-append h popped stolen in let push = sum_by_push h stolen k in
    let is = sum_by-append h popped (stolen ++ k ∷ []) in omega arith)) a b)
