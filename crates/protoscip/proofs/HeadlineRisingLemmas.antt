-- Numbered lists, and lists that rise.
use Rattle.std.proofs.Common.{◌≡◌, ◌∙◌, inl, inr, ℕ, zero, suc, ◌+◌, ◌<◌, ◌≤◌, List, [], ◌∷◌, ◌++◌, length, Some, ap}
use Rattle.std.proofs.Common.{sym, refl, subst, arith}
use Rattle.std.specs.Prelude.{Bool, true, false, cond, map, Contains}
use Rattle.std.specs.declared.cmp.Ordering.{Ordering}
use Rattle.std.specs.declared.cmp.Ordering.TheVariants.{Less, Equal}
use Rattle.std.specs.Ordering.{nat_cmp, eq_by_cmp}
use Rattle.std.specs.Cmp.{IsTotalOrder, nat_cmp_is}
use Rattle.std.specs.List.{AllByRecursion, slice_get, flat_map, filter, enumerate_from}
use Rattle.std.specs.List.Sorted.{IsStrictlySortedBy}
use Rattle.std.proofs.lemmas.Cmp.{eq_by_cmp_equiv}
use Rattle.std.proofs.lemmas.List.Folds.{Any-from_list_any, list_any-from_Any}
use Rattle.std.proofs.lemmas.Map.Keys.{IsDistinct-from_sorted}
use Rattle.std.proofs.lemmas.Map.Made.{length-le_from_is_member}
use Rattle.std.proofs.lemmas.List.Elements.{All-contains, All-contains_itself, All-from_recursion, All-weaker}
use Rattle.std.proofs.lemmas.List.Elements.{Contains-append_cases, Contains-append_left, recursion_from_All}
use Rattle.std.proofs.lemmas.Option.{same_Some, none-some}
use Rattle.basics.proofs.ListLemmas.{behind_it}
use Rattle.protoscip.proofs.FindingListLemmas.{filtered}
use Rattle.basics.proofs.FirstLemmas.{contained}

-- ---- numbered lists

module _ {A B : Type 0} (f : ℕ × A → B) where
  -- what a list has, each with its number, is at its number,
  pub from_numbered : (n : ℕ) (xs : List A) (k : ℕ) (y : B) → slice_get (map f (enumerate_from n xs)) k ≡ Some y
      → (x : A) × (slice_get xs k ≡ Some x) × (y ≡ f (n + k, x))
  from_numbered n [] k y at = absurd (none-some y at)
  from_numbered n (x ∷ xs) zero y at =
      let same : n ≡ n + zero = omega arith in
      (x, refl, sym (same_Some (f (n, x)) y at) ∙ ap (λ (m : ℕ). f (m, x)) same)
  from_numbered n (x ∷ xs) (suc k) y at =
      let others = from_numbered (n + 1) xs k y at in
      let same : n + 1 + k ≡ n + suc k = omega arith in
      (others.0, others.1, others.2 ∙ ap (λ (m : ℕ). f (m, others.0)) same)

  -- and the other way round
  pub to_numbered : (n : ℕ) (xs : List A) (k : ℕ) (x : A) → slice_get xs k ≡ Some x
      → slice_get (map f (enumerate_from n xs)) k ≡ Some (f (n + k, x))
  to_numbered n [] k x at = absurd (none-some x at)
  to_numbered n (y ∷ xs) zero x at =
      let same : n ≡ n + zero = omega arith in
      ap Some (ap (λ (z : A). f (n, z)) (same_Some y x at) ∙ ap (λ (m : ℕ). f (m, x)) same)
  to_numbered n (y ∷ xs) (suc k) x at =
      let same : n + 1 + k ≡ n + suc k = omega arith in
      to_numbered (n + 1) xs k x at ∙ ap (λ (m : ℕ). Some (f (m, x))) same

-- ---- lists of lists

module _ {X A : Type 0} (f : X → List A) where
  pub from_flat : (xs : List X) (y : A) → Contains (flat_map f xs) y → (x : X) × Contains xs x × Contains (f x) y
  from_flat [] y there = absurd (omega (arith, there.1))
  from_flat (x ∷ xs) y there = elim (Contains-append_cases (f x) (flat_map f xs) y there) [
    | inl here ↦ (x, contained (x ∷ xs) zero x refl, here)
    | inr others ↦ (let of = from_flat xs y others in (of.0, behind_it x xs of.0 of.1, of.2))
  ]

  pub to_flat : (xs : List X) (k : ℕ) (x : X) (y : A) → slice_get xs k ≡ Some x → Contains (f x) y
      → Contains (flat_map f xs) y
  to_flat [] k x y at there = absurd (none-some x at)
  to_flat (z ∷ xs) zero x y at there =
      let Has : X → Type 0 = λ w. Contains (f w) y in
      Contains-append_left (f z) (flat_map f xs) y (subst Has (sym (same_Some z x at)) there)
  to_flat (z ∷ xs) (suc k) x y at there = after (f z) (to_flat xs k x y at there)
    where
      after : (front : List A) → Contains (flat_map f xs) y → Contains (front ++ flat_map f xs) y
      after [] there = there
      after (a ∷ front) there = behind_it a (front ++ flat_map f xs) y (after front there)

-- ---- lists that rise

pub below : (m n : ℕ) → m < n → nat_cmp m n ≡ Less
below m n less = sym (nat_cmp_is m n Less less)

pub level : (n : ℕ) → nat_cmp n n ≡ Equal
level n = sym (nat_cmp_is n n Equal refl)

module _ {X : Type 0} (cmp : X → X → Ordering) where
  pub before_all : (x : X) (ys : List X) → ((y : X) → Contains ys y → cmp x y ≡ Less)
      → AllByRecursion (λ y. cmp x y ≡ Less) ys
  before_all x ys each = recursion_from_All (λ y. cmp x y ≡ Less) ys
      (All-weaker (Contains ys) (λ y. cmp x y ≡ Less) each ys (All-contains_itself ys))

  before_one : (x : X) (ys : List X) → AllByRecursion (λ y. cmp x y ≡ Less) ys → (y : X) → Contains ys y
      → cmp x y ≡ Less
  before_one x ys all y there =
      All-contains (λ z. cmp x z ≡ Less) ys y (All-from_recursion (λ z. cmp x z ≡ Less) ys all) there

  pub rising_append : (xs ys : List X) → IsStrictlySortedBy cmp xs → IsStrictlySortedBy cmp ys
      → ((x y : X) → Contains xs x → Contains ys y → cmp x y ≡ Less) → IsStrictlySortedBy cmp (xs ++ ys)
  unfolding IsStrictlySortedBy
  rising_append [] ys up also before = also
  rising_append (x ∷ xs) ys up also before = (
    before_all x (xs ++ ys) (λ y there. elim (Contains-append_cases xs ys y there) [
      | inl here ↦ before_one x xs up.0 y here
      | inr later ↦ before x y (contained (x ∷ xs) zero x refl) later
    ]),
    rising_append xs ys up.1 also (λ z y here later. before z y (behind_it x xs z here) later),
  )

  pub rising_filter : (test : X → Bool) (xs : List X) → IsStrictlySortedBy cmp xs
      → IsStrictlySortedBy cmp (filter test xs)
  unfolding IsStrictlySortedBy
  rising_filter test [] up = tt
  rising_filter test (x ∷ xs) up =
      let others = rising_filter test xs up.1 in
      elim (test x) as (λ b. IsStrictlySortedBy cmp (cond b (x ∷ filter test xs) (filter test xs))) [
        | true ↦ (
          before_all x (filter test xs) (λ y there. before_one x xs up.0 y (filtered test xs y there).0),
          others,
        )
        | false ↦ others
      ]

  -- a list that rises and has nothing but what another has is no longer
  pub no_longer : IsTotalOrder cmp → (xs ys : List X) → IsStrictlySortedBy cmp xs
      → ((x : X) → Contains xs x → Contains ys x) → length xs ≤ length ys
  no_longer total xs ys up within =
      length-le_from_is_member (eq_by_cmp_equiv total) xs ys (IsDistinct-from_sorted cmp xs up) (λ q there.
      let one = Any-from_list_any (eq_by_cmp cmp q) xs there in
      let also = within one.1 (one.0, one.2, one.3) in
      list_any-from_Any (eq_by_cmp cmp q) ys (also.0, one.1, also.1, also.2, one.4))
