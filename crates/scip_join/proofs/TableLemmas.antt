-- Of a list in an order the first of each that are the same: just those that are the first with their key.
use Rattle.std.proofs.Common.{◌≡◌, ◌↔◌, inl, inr, ℕ, Bool, true, false, not, ◌&&◌, List, [], ◌∷◌, refl, sym, ◌∙◌}
use Rattle.std.proofs.Common.{ap, subst}
use Rattle.std.specs.declared.cmp.Ordering.{Ordering}
use Rattle.std.specs.declared.cmp.Ordering.TheVariants.{Less, Equal, Greater}
use Rattle.std.specs.Ordering.{nat_cmp, on, is_lt, is_eq, ordering_reverse}
use Rattle.std.specs.Cmp.{IsTotalOrder}
use Rattle.std.specs.Cmp.Lexicographic.{slice_cmp, texts_ties}
use Rattle.std.specs.List.{AllByRecursion, Contains, filter, dedup, dedup_from}
use Rattle.std.specs.List.Sorted.{IsStrictlySortedBy, ties}
use Rattle.std.specs.Str.{bytes_eq}
use Rattle.std.proofs.lemmas.Bool.{cases_Bool, cond-true, cond-false, false≢true}
use Rattle.std.proofs.lemmas.Cmp.{on_total, nat_list_cmp_total}
use Rattle.std.proofs.lemmas.List.Kept.{IsStrictlySortedBy-dedup}
use Rattle.std.proofs.lemmas.List.Sorted.{ranks_by}
use Rattle.std.proofs.lemmas.Map.Lookups.{exact_bytes}
use Rattle.std.proofs.lemmas.Map.Text.{is_eq-slice_cmp}
use Rattle.std.proofs.lemmas.Slice.Eq.{bytes_eq-Decides}
use Rattle.basics.proofs.ElementLemmas.{In, from_filter, contained, from_contained}
use Rattle.basics.proofs.StrictOrderLemmas.{Ascends, ascends_from, neither_less}
use Rattle.scip_join.specs.Tables.{IsOrdered, IsFirstOfEach}

tied : (r : Ordering) → (not (is_lt r) && not (is_lt (ordering_reverse r))) ≡ is_eq (ordering_reverse r)
tied Less = refl
tied Equal = refl
tied Greater = refl

pub heads : {X : Type 0} (x y : X) (xs ys : List X) → x ∷ xs ≡ y ∷ ys → (x ≡ y) × (xs ≡ ys)
heads x y xs ys e = (cc, cc)

pub equal_bytes : (a b : List ℕ) → bytes_eq a b ≡ true → a ≡ b
equal_bytes a b e = (bytes_eq-Decides a b).0 e

pub bytes_equal : (a b : List ℕ) → a ≡ b → bytes_eq a b ≡ true
bytes_equal a b e = (bytes_eq-Decides a b).1 e

module _ {X : Type 0} (key : X → List ℕ) where
  abbrev pub cmp : X → X → Ordering
  cmp = on key (slice_cmp nat_cmp)

  abbrev pub same : X → X → Bool
  same a b = bytes_eq (key a) (key b)

  abbrev pub has : List ℕ → X → Bool
  has k x = bytes_eq (key x) k

  abbrev pub lt : X → X → Bool
  lt a b = is_lt (cmp a b)

  pub total : IsTotalOrder cmp
  total = on_total key nat_list_cmp_total

  -- x is the first with its key
  abbrev pub IsFirst : List X → X → Type 0
  IsFirst xs x = (rest : List X) × (filter (has (key x)) xs ≡ x ∷ rest)

  -- ---- what a stable sort keeps

  tie : (x m : X) → ties lt x m ≡ has (key x) m
  tie x m =
      ap (λ r. not (is_lt (cmp x m)) && not (is_lt r)) (total.antisymm m x) ∙ tied (cmp x m)
      ∙ ap is_eq (sym (total.antisymm m x)) ∙ is_eq-slice_cmp (key m) (key x)

  pub kept_at : (all ordered : List X) → IsOrdered cmp all ordered → (x : X)
      → filter (has (key x)) ordered ≡ filter (has (key x)) all
  kept_at all ordered are x =
      (λ i. filter (λ m. sym (tie x m) i) ordered) ∙ are.stable x ∙ (λ i. filter (λ m. tie x m i) all)

  pub ascends : (all ordered : List X) → IsOrdered cmp all ordered → Ascends lt ordered
  ascends all ordered are = ascends_from lt (ranks_by nat_list_cmp_total key) ordered are.sorted

  -- ---- the first of a list

  pub passing : (k : List ℕ) (x : X) (xs : List X) → has k x ≡ true → filter (has k) (x ∷ xs) ≡ x ∷ filter (has k) xs
  passing k x xs e = cond-true (has k x) (x ∷ filter (has k) xs) (filter (has k) xs) e

  pub failing : (k : List ℕ) (x : X) (xs : List X) → has k x ≡ false → filter (has k) (x ∷ xs) ≡ filter (has k) xs
  failing k x xs e = cond-false (has k x) (x ∷ filter (has k) xs) (filter (has k) xs) e

  first_head : (k : X) (xs : List X) (x : X) → x ≡ k → IsFirst (k ∷ xs) x
  first_head k xs x e =
      subst (λ z. IsFirst (k ∷ xs) z) (sym e)
      (filter (has (key k)) xs, passing (key k) k xs (bytes_equal (key k) (key k) refl))

  head_first : (k : X) (xs : List X) (x : X) → has (key x) k ≡ true → IsFirst (k ∷ xs) x → x ≡ k
  head_first k xs x e first =
      sym (heads k x (filter (has (key x)) xs) first.0 (sym (passing (key x) k xs e) ∙ first.1)).0

  pub first_in : (xs : List X) (x : X) → IsFirst xs x → In x xs
  first_in xs x first =
      (from_filter (has (key x)) x xs (subst (λ l. In x l) (sym first.1) (inl refl))).0

  not_below : (y : X) (ys : List X) → AllByRecursion (λ z. lt z y ≡ false) ys → (x : X) → In x ys → lt x y ≡ false
  not_below y [] up x is = absurd is
  not_below y (z ∷ ys) up x (inl e) = subst (λ w. lt w y ≡ false) (sym e) up.0
  not_below y (z ∷ ys) up x (inr is) = not_below y ys up.1 x is

  not_below_itself : (x : X) → lt x x ≡ false
  not_below_itself x = itself (cmp x x) (total.antisymm x x)
    where
      itself : (r : Ordering) → r ≡ ordering_reverse r → is_lt r ≡ false
      itself Less e = absurd cc
      itself Equal e = refl
      itself Greater e = refl

  pub no_less : (y : X) (ys : List X) → Ascends lt (y ∷ ys) → (x : X) → In x (y ∷ ys) → lt x y ≡ false
  no_less y ys up x (inl e) = subst (λ w. lt w y ≡ false) (sym e) (not_below_itself y)
  no_less y ys up x (inr is) = not_below y ys up.0 x is

  -- behind one that isn't the same, none is
  pub apart : (k y : X) (ys : List X) → Ascends lt (k ∷ y ∷ ys) → same y k ≡ false → (x : X) → In x (y ∷ ys)
      → has (key k) x ≡ false
  apart k y ys up differs x is = elim (cases_Bool (has (key k) x)) [
    | inr fails ↦ fails
    | inl holds ↦ (let one : key x ≡ key k = equal_bytes (key x) (key k) holds in
        let less : is_lt (slice_cmp nat_cmp (key y) (key x)) ≡ false =
        subst (λ t. is_lt (slice_cmp nat_cmp (key y) t) ≡ false) (sym one) up.0.0 in
        let equal : cmp x y ≡ Equal =
        neither_less (cmp x y) (cmp y x) (total.antisymm x y) (no_less y ys up.1 x is) less in
        let two : key x ≡ key y = exact_bytes (key x) (key y) equal in
        absurd (false≢true (sym differs ∙ bytes_equal (key y) (key k) (sym two ∙ one))))
  ]

  pub turned : (a b : List ℕ) → bytes_eq a b ≡ false → bytes_eq b a ≡ false
  turned a b e = elim (cases_Bool (bytes_eq b a)) [
    | inr fails ↦ fails
    | inl holds ↦ absurd (false≢true (sym e ∙ bytes_equal a b (sym (equal_bytes b a holds))))
  ]

  -- ---- what stays

  module _ (k y : X) (ys : List X) (is_same : same y k ≡ true) where
    one_key : key y ≡ key k
    one_key = equal_bytes (key y) (key k) is_same

    without : (x : X) → has (key x) k ≡ false → filter (has (key x)) (k ∷ y ∷ ys) ≡ filter (has (key x)) (k ∷ ys)
    without x e =
        failing (key x) k (y ∷ ys) e ∙ failing (key x) y ys (subst (λ t. bytes_eq t (key x) ≡ false) (sym one_key) e)
        ∙ sym (failing (key x) k ys e)

    skip : (x : X) → IsFirst (k ∷ ys) x → IsFirst (k ∷ y ∷ ys) x
    skip x first = elim (cases_Bool (has (key x) k)) [
      | inl holds ↦ first_head k (y ∷ ys) x (head_first k ys x holds first)
      | inr fails ↦ (first.0, without x fails ∙ first.1)
    ]

    unskip : (x : X) → IsFirst (k ∷ y ∷ ys) x → IsFirst (k ∷ ys) x
    unskip x first = elim (cases_Bool (has (key x) k)) [
      | inl holds ↦ first_head k ys x (head_first k (y ∷ ys) x holds first)
      | inr fails ↦ (first.0, sym (without x fails) ∙ first.1)
    ]

  behind : (k y : X) (ys : List X) → Ascends lt (k ∷ y ∷ ys) → same y k ≡ false → (x : X) → IsFirst (y ∷ ys) x
      → IsFirst (k ∷ y ∷ ys) x
  behind k y ys up differs x first =
      let other : has (key x) k ≡ false =
      turned (key x) (key k) (apart k y ys up differs x (first_in (y ∷ ys) x first)) in
      (first.0, failing (key x) k (y ∷ ys) other ∙ first.1)

  ascends_without : (k y : X) (ys : List X) → Ascends lt (k ∷ y ∷ ys) → Ascends lt (k ∷ ys)
  ascends_without k y ys up = (up.0.1, up.1.1)

  first_behind : (k y : X) (ys : List X) → Ascends lt (k ∷ y ∷ ys) → same y k ≡ false → (x : X)
      → (In x (dedup_from same y ys) → IsFirst (y ∷ ys) x) → In x (k ∷ dedup_from same y ys)
      → IsFirst (k ∷ y ∷ ys) x
  first_behind k y ys up differs x rest (inl one) = first_head k (y ∷ ys) x one
  first_behind k y ys up differs x rest (inr there) = behind k y ys up differs x (rest there)

  into_first : (k : X) (xs : List X) → Ascends lt (k ∷ xs) → (x : X) → In x (dedup_from same k xs)
      → IsFirst (k ∷ xs) x
  into_first k [] up x (inl e) = first_head k [] x e
  into_first k [] up x (inr is) = absurd is
  into_first k (y ∷ ys) up x is =
      by (same y k) refl is (λ there. into_first k ys (ascends_without k y ys up) x there)
      (λ there. into_first y ys up.1 x there)
    where
      by : (b : Bool) → same y k ≡ b → In x (dedup_from same k (y ∷ ys))
          → (In x (dedup_from same k ys) → IsFirst (k ∷ ys) x)
          → (In x (dedup_from same y ys) → IsFirst (y ∷ ys) x) → IsFirst (k ∷ y ∷ ys) x
      by true e there left rest =
          skip k y ys e x
          (left (subst (λ l. In x l) (cond-true (same y k) (dedup_from same k ys) (k ∷ dedup_from same y ys) e) there))
      by false e there left rest =
          first_behind k y ys up e x rest
          (subst (λ l. In x l) (cond-false (same y k) (dedup_from same k ys) (k ∷ dedup_from same y ys) e) there)

  from_first : (k : X) (xs : List X) → (x : X) → IsFirst (k ∷ xs) x → In x (dedup_from same k xs)
  from_first k [] x first = elim (cases_Bool (has (key x) k)) [
    | inl holds ↦ inl (head_first k [] x holds first)
    | inr fails ↦ (let none : [] ≡ x ∷ first.0 = sym (failing (key x) k [] fails) ∙ first.1 in absurd cc)
  ]
  from_first k (y ∷ ys) x first =
      by (same y k) refl (λ one. from_first k ys x one) (λ one. from_first y ys x one)
    where
      by : (b : Bool) → same y k ≡ b → (IsFirst (k ∷ ys) x → In x (dedup_from same k ys))
          → (IsFirst (y ∷ ys) x → In x (dedup_from same y ys)) → In x (dedup_from same k (y ∷ ys))
      by true e left rest =
          subst (λ l. In x l) (sym (cond-true (same y k) (dedup_from same k ys) (k ∷ dedup_from same y ys) e))
          (left (unskip k y ys e x first))
      by false e left rest =
          subst (λ l. In x l) (sym (cond-false (same y k) (dedup_from same k ys) (k ∷ dedup_from same y ys) e))
          (elim (cases_Bool (has (key x) k)) [
            | inl holds ↦ inl (head_first k (y ∷ ys) x holds first)
            | inr fails ↦ inr (rest (first.0, sym (failing (key x) k (y ∷ ys) fails) ∙ first.1))
          ])

  first_to_dedup : (xs : List X) → Ascends lt xs → (x : X) → Contains (dedup same xs) x → IsFirst xs x
  first_to_dedup [] up x there = absurd (from_contained [] x there)
  first_to_dedup (k ∷ xs) up x there = into_first k xs up x (from_contained (dedup_from same k xs) x there)

  dedup_to_first : (xs : List X) → (x : X) → IsFirst xs x → Contains (dedup same xs) x
  dedup_to_first [] x first = absurd cc
  dedup_to_first (k ∷ xs) x first = contained (dedup_from same k xs) x (from_first k xs x first)

  -- just the first ones stay, in order
  pub stay : (all firsts : List X) → IsFirstOfEach cmp same all firsts → (x : X)
      → Contains firsts x ↔ IsFirst all x
  stay all firsts are x = (
    λ there.
        let first = first_to_dedup are.ordered (ascends all are.ordered are.in_order) x
        (subst (λ l. Contains l x) are.firsts_are there) in
        (first.0, sym (kept_at all are.ordered are.in_order x) ∙ first.1),
    λ first.
        subst (λ l. Contains l x) (sym are.firsts_are)
        (dedup_to_first are.ordered x (first.0, kept_at all are.ordered are.in_order x ∙ first.1)),
  )

  pub strictly : (all firsts : List X) → IsFirstOfEach cmp same all firsts → IsStrictlySortedBy cmp firsts
  strictly all firsts are =
      subst (IsStrictlySortedBy cmp) (sym are.firsts_are)
      (IsStrictlySortedBy-dedup total (λ x y. texts_ties (key x) (key y)) are.ordered are.in_order.sorted)
