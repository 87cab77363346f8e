-- Lists that rise strictly, and lists sorted stably: each is told by its elements.
use Rattle.std.proofs.Common.{◌≡◌, ◌⊎◌, inl, inr, ℕ, ◌+◌, Bool, true, false, zero, suc, List, [], ◌∷◌, get_or, refl, ap}
use Rattle.std.proofs.Common.{sym, ◌∙◌, subst, arith}
use Rattle.std.specs.declared.cmp.Ordering.{Ordering}
use Rattle.std.specs.declared.cmp.Ordering.TheVariants.{Less, Equal, Greater}
use Rattle.std.specs.Ordering.{is_lt, ordering_reverse}
use Rattle.std.specs.Cmp.{IsTotalOrder, IsStrictWeakOrder}
use Rattle.std.specs.List.{All, AllByRecursion, Contains, filter}
use Rattle.std.specs.List.Sorted.{IsSortedBy, IsStrictlySortedBy, ties}
use Rattle.std.proofs.lemmas.Bool.{cases_Bool, cond-true, cond-false}
use Rattle.std.proofs.lemmas.Cmp.{tied_itself}
use Rattle.std.proofs.lemmas.List.Elements.{All-from_recursion, recursion_from_All, All-contains, All-filter, All-head}
use Rattle.std.proofs.lemmas.List.Elements.{Contains-append_left, Contains-append_right, Contains-append_cases}
use Rattle.std.proofs.lemmas.List.Elements.{Contains-push}
use Rattle.std.proofs.lemmas.List.Sorted.{sorted_far}
use Rattle.basics.proofs.ListLemmas.{only, in_front, behind_it, in_nothing}

-- ---- membership

pub in_either : {X : Type 0} (x : X) (xs : List X) (y : X) → Contains (x ∷ xs) y → (x ≡ y) ⊎ Contains xs y
in_either x xs y there = elim (Contains-append_cases (x ∷ []) xs y there) [
  | inl one ↦ inl (only x y one)
  | inr later ↦ inr later
]

-- what holds of each element, by recursion, holds of one that is there
pub of_each : {X : Type 0} (P : X → Type 0) (xs : List X) (x : X) → AllByRecursion P xs → Contains xs x → P x
of_each P xs x each there = All-contains P xs x (All-from_recursion P xs each) there

-- ---- lists that rise strictly

module _ {X : Type 0} {R : X → X → Ordering} (order : IsTotalOrder R) where
  pub not_below_itself : (x : X) → R x x ≡ Less → ⊥
  not_below_itself x below = let tied = tied_itself order x in absurd cc

  not_both : (x y : X) → R x y ≡ Less → R y x ≡ Less → ⊥
  not_both x y below above = not_below_itself x (order.trans x y x below above)

  one_head : (x y : X) (xs ys : List X) → AllByRecursion (λ z. R x z ≡ Less) xs → AllByRecursion (λ z. R y z ≡ Less) ys
      → Contains (y ∷ ys) x → Contains (x ∷ xs) y → x ≡ y
  one_head x y xs ys p q left right = elim (in_either y ys x left) [
    | inl same ↦ sym same
    | inr later ↦ elim (in_either x xs y right) [
      | inl same ↦ same
      | inr also ↦ absurd (not_both x y (of_each (λ z. R x z ≡ Less) xs y p also)
          (of_each (λ z. R y z ≡ Less) ys x q later))
    ]
  ]

  -- what is behind the first stands behind the other's first, where both begin alike
  behind_both : (x y : X) (xs ys : List X) → AllByRecursion (λ z. R x z ≡ Less) xs → x ≡ y
      → ((z : X) → Contains (x ∷ xs) z → Contains (y ∷ ys) z)
      → (z : X) → Contains xs z → Contains ys z
  behind_both x y xs ys p same into z there = elim (in_either y ys z (into z (behind_it x xs z there))) [
    | inr later ↦ later
    | inl first ↦ absurd (not_below_itself x
        (subst (λ w. R x w ≡ Less) (sym (same ∙ first)) (of_each (λ w. R x w ≡ Less) xs z p there)))
  ]

  -- two lists that rise strictly and have the same elements are one
  pub rising_one : (xs ys : List X) → IsStrictlySortedBy R xs → IsStrictlySortedBy R ys
      → ((z : X) → Contains xs z → Contains ys z) → ((z : X) → Contains ys z → Contains xs z) → xs ≡ ys
  unfolding IsStrictlySortedBy
  rising_one [] [] p q into back = refl
  rising_one [] (y ∷ ys) p q into back = absurd (in_nothing y (back y (in_front y ys)))
  rising_one (x ∷ xs) [] p q into back = absurd (in_nothing x (into x (in_front x xs)))
  rising_one (x ∷ xs) (y ∷ ys) p q into back =
      let same : x ≡ y = one_head x y xs ys p.0 q.0 (into x (in_front x xs)) (back y (in_front y ys)) in
      let rest : xs ≡ ys = rising_one xs ys p.1 q.1 (behind_both x y xs ys p.0 same into)
      (behind_both y x ys xs q.0 (sym same) back) in
      cc

-- ---- sorted lists

-- no element is less than one before it
abbrev pub Ascends : {X : Type 0} → (X → X → Bool) → List X → Type 0
Ascends lt [] = Unit {0}
Ascends lt (x ∷ xs) = AllByRecursion (λ y. lt y x ≡ false) xs × Ascends lt xs

pub neither_less : (a b : Ordering) → a ≡ ordering_reverse b → is_lt a ≡ false → is_lt b ≡ false → a ≡ Equal
neither_less Less b e p q = absurd cc
neither_less Equal b e p q = refl
neither_less Greater Less e p q = absurd cc
neither_less Greater Equal e p q = absurd cc
neither_less Greater Greater e p q = absurd cc

module _ {X : Type 0} (lt : X → X → Bool) (order : IsStrictWeakOrder lt) where
  pub ascends_from : (xs : List X) → IsSortedBy lt xs → Ascends lt xs
  ascends_from [] up = tt
  ascends_from (x ∷ xs) up = (
    recursion_from_All (λ y. lt y x ≡ false) xs
        (λ k d within. sorted_far lt order (x ∷ xs) up 0 (suc k) d (omega arith) (omega arith)),
    ascends_from xs (λ k d low within.
        let next : lt (get_or (x ∷ xs) (suc k + 1) d) (get_or (x ∷ xs) (suc k) d) ≡ false =
        up (suc k) d (omega arith) (omega arith) in
        rw add_one (rw add_one at next)),
  )
    where
      add_one : (n : ℕ) → n + 1 ≡ suc n
      add_one n = omega arith

module _ {X : Type 0} {R : X → X → Ordering} (order : IsTotalOrder R) where
  abbrev lt : X → X → Bool
  lt x y = is_lt (R x y)

  not_less_itself : (x : X) → lt x x ≡ false
  not_less_itself x = ap is_lt (tied_itself order x)

  tie : (x y : X) → lt x y ≡ false → lt y x ≡ false → ties lt x y ≡ true
  tie x y p q = rw (p, q) refl

  kept : (p : X → Bool) (x : X) (xs : List X) → p x ≡ true → filter p (x ∷ xs) ≡ x ∷ filter p xs
  kept p x xs e = cond-true (p x) (x ∷ filter p xs) (filter p xs) e

  passed : (p : X → Bool) (x : X) (xs : List X) → p x ≡ false → filter p (x ∷ xs) ≡ filter p xs
  passed p x xs e = cond-false (p x) (x ∷ filter p xs) (filter p xs) e

  alone : (x : X) (xs : List X) → filter (ties lt x) (x ∷ xs) ≡ x ∷ filter (ties lt x) xs
  alone x xs = kept (ties lt x) x xs (tie x x (not_less_itself x) (not_less_itself x))

  -- the other list's first element isn't above the first of this one
  not_above : (x y : X) (xs ys : List X) → AllByRecursion (λ z. lt z y ≡ false) ys
      → filter (ties lt x) (x ∷ xs) ≡ filter (ties lt x) (y ∷ ys) → lt x y ≡ false
  not_above x y xs ys up same =
      All-head (λ z. lt z y ≡ false) x (filter (ties lt x) xs)
      (subst (All (λ z. lt z y ≡ false)) (sym same ∙ alone x xs)
      (All-filter (ties lt x) (λ z. lt z y ≡ false) (y ∷ ys)
      (All-from_recursion (λ z. lt z y ≡ false) (y ∷ ys) (not_less_itself y, up))))

  one_less : (x y : X) (xs ys : List X) → x ∷ xs ≡ y ∷ ys → (x ≡ y) × (xs ≡ ys)
  one_less x y xs ys e = (cc, cc)

  -- two lists that ascend, and of which each element's ties stand in one order, are one
  pub sorted_one : (xs ys : List X) → Ascends lt xs → Ascends lt ys
      → ((z : X) → filter (ties lt z) xs ≡ filter (ties lt z) ys) → xs ≡ ys
  sorted_one [] [] p q same = refl
  sorted_one [] (y ∷ ys) p q same = let none : [] ≡ y ∷ filter (ties lt y) ys = same y ∙ alone y ys in absurd cc
  sorted_one (x ∷ xs) [] p q same = let none : x ∷ filter (ties lt x) xs ≡ [] = sym (alone x xs) ∙ same x in absurd cc
  sorted_one (x ∷ xs) (y ∷ ys) p q same =
      let tied : ties lt x y ≡ true =
      tie x y (not_above x y xs ys q.0 (same x)) (not_above y x ys xs p.0 (sym (same y))) in
      let heads : x ≡ y = (one_less x y (filter (ties lt x) xs) (filter (ties lt x) ys)
      (sym (alone x xs) ∙ same x ∙ kept (ties lt x) y ys tied)).0 in
      let rest : xs ≡ ys = sorted_one xs ys p.1 q.1 (λ z. tails z heads) in
      cc
    where
      tails : (z : X) → x ≡ y → filter (ties lt z) xs ≡ filter (ties lt z) ys
      tails z heads = elim (cases_Bool (ties lt z x)) [
        | inl holds ↦ (one_less x y (filter (ties lt z) xs) (filter (ties lt z) ys)
            (sym (kept (ties lt z) x xs holds) ∙ same z
            ∙ kept (ties lt z) y ys (subst (λ w. ties lt z w ≡ true) heads holds))).1
        | inr fails ↦ sym (passed (ties lt z) x xs fails) ∙ same z
            ∙ passed (ties lt z) y ys (subst (λ w. ties lt z w ≡ false) heads fails)
      ]
