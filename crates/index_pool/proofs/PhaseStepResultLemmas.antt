-- Lists of results: their weights, and what the job may give.
use Rattle.std.proofs.Common.{◌≡◌, ℕ, ◌+◌, ◌<◌, List, [], ◌∷◌, ◌++◌, sum_by, nat_lt, if◌then◌else◌, refl, sym, ap, ◌∙◌}
use Rattle.std.proofs.Common.{arith}
use Rattle.std.proofs.lemmas.List.Sums.{sum_by-cons, sum_by-append}
use Rattle.std.proofs.lemmas.List.Elements.{All-same, All-append, All-contains}
use Rattle.std.specs.List.{range_with_len}
use Rattle.index_pool.specs.declared.phase.worker.Ran.{Ran}
use Rattle.index_pool.specs.Once.{HasEachOnceBelow}
use Rattle.index_pool.specs.Tables.PhaseSteps.{AllGiven, weight, numbers_of, IsAmong}
use Rattle.index_pool.proofs.OnceLemmas.{only_at, sum_only_at-range, only_at_own, below_from_one}

module _ {A : Type 0} (rs qs ps : List (Ran A)) (is : ps ≡ rs ++ qs) where
  pub given_append : (gives : ℕ → A → Type 0) → AllGiven gives rs → AllGiven gives qs → AllGiven gives ps
  given_append gives a b =
      All-same (λ (r : Ran A). gives r.number r.answer) ps (rs ++ qs) is
      (All-append (λ (r : Ran A). gives r.number r.answer) rs qs a b)

  pub weight_append : (h : ℕ → ℕ) → weight h ps ≡ weight h rs + weight h qs
  weight_append h = ap (weight h) is ∙ sum_by-append (λ (r : Ran A). h r.number) rs qs

-- what is among results that the job may give, it may give
pub given_among : {A : Type 0} (gives : ℕ → A → Type 0) (rs : List (Ran A)) → AllGiven gives rs → (k : ℕ) (a : A)
    → IsAmong rs k a → gives k a
given_among {A} gives rs all k a among =
    All-contains (λ (r : Ran A). gives r.number r.answer) rs (record { number = k; answer = a }) all among

numbers_weigh : {A : Type 0} (h : ℕ → ℕ) (rs : List (Ran A)) → sum_by h (numbers_of rs) ≡ weight h rs
numbers_weigh h [] = refl
numbers_weigh {A} h (r ∷ rs) =
    sum_by-cons h r.number (numbers_of rs)
    ∙ (ap (λ m. h r.number + m) (numbers_weigh h rs) ∙ sym (sum_by-cons (λ (q : Ran A). h q.number) r rs))

-- results that weigh what the numbers below n weigh, however these are weighed, are one for each
pub each_once : {A : Type 0} (n : ℕ) (rs : List (Ran A)) → ((h : ℕ → ℕ) → weight h rs ≡ sum_by h (range_with_len 0 n))
    → HasEachOnceBelow n (numbers_of rs)
each_once n rs weighed number =
    numbers_weigh (only_at number) rs ∙ (weighed (only_at number) ∙ sum_only_at-range number n)

-- and where there is one for each, one number weighs 1 if it is below n
pub once_weighs : {A : Type 0} (n : ℕ) (rs : List (Ran A)) → HasEachOnceBelow n (numbers_of rs) → (number : ℕ)
    → weight (only_at number) rs ≡ (if nat_lt number n then 1 else 0)
once_weighs n rs once number = sym (numbers_weigh (only_at number) rs) ∙ once number

-- where there is one result for each number below n, each is for one of these
pub number_below : {A : Type 0} (n : ℕ) (rs ys zs : List (Ran A)) (r : Ran A) → rs ≡ ys ++ r ∷ zs
    → HasEachOnceBelow n (numbers_of rs) → r.number < n
number_below {A} n rs ys zs r is once =
    let h = only_at r.number in
    let a = weight_append ys (r ∷ zs) rs is h in
    let b = sum_by-cons (λ (q : Ran A). h q.number) r zs in
    let c = once_weighs n rs once r.number in
    let e = only_at_own r.number in
    below_from_one r.number n (omega arith)
