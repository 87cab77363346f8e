-- The ascending list of a set: what a sort leaves of elements that differ.
use Rattle.std.proofs.Common.{◌≡◌, ◌+◌, ◌↔◌, Bool, false, List, [], ◌∷◌, ◌++◌, get_or, refl, arith, ◌⊎◌, inl, inr, ap}
use Rattle.std.proofs.Common.{subst, map, sym, ◌∙◌}
use Rattle.std.specs.declared.cmp.Ordering.{Ordering}
use Rattle.std.specs.declared.cmp.Ordering.TheVariants.{Less, Equal, Greater}
use Rattle.std.specs.Ordering.{is_lt, is_eq, eq_by_cmp, ordering_reverse, on}
use Rattle.std.specs.Cmp.{IsTotalOrder}
use Rattle.std.specs.List.{AllByRecursion, Contains, IsDistinct}
use Rattle.std.specs.List.Sorted.{IsSorted, IsPermutation, IsStrictlySortedBy}
use Rattle.std.proofs.lemmas.Cmp.{eq_by_cmp_equiv}
use Rattle.std.proofs.lemmas.List.Elements.{recursion_from_All, All-from_recursion, All-contains, Contains-get_or}
use Rattle.std.proofs.lemmas.List.Elements.{Contains-append_left, Contains-append_right, Contains-append_cases}
use Rattle.std.proofs.lemmas.List.Elements.{Contains-push}
use Rattle.std.proofs.lemmas.List.Sorted.{Contains-permutation, IsPermutation-sym}
use Rattle.std.proofs.lemmas.Map.Keys.{IsDistinct-head, IsDistinct-tail, IsDistinct-cons, IsDistinct-IsPermutation}
use Rattle.std.proofs.lemmas.Map.Keys.{apart_from_distinct, sorted_from_all_adjacent}
use Rattle.basics.proofs.ListLemmas.{only, in_nothing}
use Rattle.scip_model.specs.Indexes.{IsAscendingListOf}

-- of two orders, each the other turned, the first is Less where the second isn't and they aren't Equal
below : (there back : Ordering) → there ≡ ordering_reverse back → is_lt back ≡ false → is_eq there ≡ false
    → there ≡ Less
below Less back e p q = refl
below Equal back e p q = cc
below Greater Less e p q = cc
below Greater Equal e p q = cc
below Greater Greater e p q = cc

module _ {X : Type 0} {cmp : X → X → Ordering} (total : IsTotalOrder cmp) where
  pub rises : (xs : List X) → IsSorted cmp xs → IsDistinct (eq_by_cmp cmp) xs → IsStrictlySortedBy cmp xs
  unfolding IsStrictlySortedBy
  rises [] up differ = tt
  rises (x ∷ xs) up differ =
      sorted_from_all_adjacent total (x ∷ xs) x (λ k within.
      below (cmp (get_or (x ∷ xs) k x) (get_or (x ∷ xs) (k + 1) x))
      (cmp (get_or (x ∷ xs) (k + 1) x) (get_or (x ∷ xs) k x))
      (total.antisymm (get_or (x ∷ xs) k x) (get_or (x ∷ xs) (k + 1) x))
      (up k x (omega arith) within)
      (apart_from_distinct (eq_by_cmp cmp) (x ∷ xs) k (k + 1) x differ (omega arith) within))

  -- a sort of a list that has all of a set, without doubles, leaves its ascending list
  pub ascending-list : (IsWanted : X → Type 0) (made list : List X) → ((x : X) → Contains made x ↔ IsWanted x)
      → IsDistinct (eq_by_cmp cmp) made
      → IsPermutation made list → IsSorted cmp list → IsAscendingListOf cmp IsWanted list
  ascending-list IsWanted made list exact differ moved up = record {
    exact = λ x. (
      λ there. (exact x).0 (Contains-permutation list made x (IsPermutation-sym made list moved) there),
      λ wanted. Contains-permutation made list x moved ((exact x).1 wanted),
    );
    ascends = rises list up (IsDistinct-IsPermutation (eq_by_cmp cmp)
        (eq_by_cmp_equiv total).symm made list moved differ);
  }

  -- nothing is behind itself
  pub not-below : (x : X) → cmp x x ≡ Less → ⊥
  not-below x less = turned (cmp x x) (cmp x x) (total.antisymm x x) less less
    where
      turned : (there back : Ordering) → there ≡ ordering_reverse back → there ≡ Less → back ≡ Less → ⊥
      turned there Less e p q = let bad : Greater ≡ Less = sym e ∙ p in cc
      turned there Equal e p q = cc
      turned there Greater e p q = cc

  not-both : (x y : X) → cmp x y ≡ Less → cmp y x ≡ Less → ⊥
  not-both x y less more = let bad : Greater ≡ Less = sym (total.antisymm x y ∙ ap ordering_reverse more) ∙ less in cc

  tail-in : (x y : X) (xs ys : List X) → x ≡ y → AllByRecursion (λ z. cmp x z ≡ Less) xs → (z : X) → Contains xs z
      → Contains (y ∷ ys) z → Contains ys z
  tail-in x y xs ys same up z there also = elim (Contains-append_cases (y ∷ []) ys z also) [
    | inr behind ↦ behind
    | inl first ↦ (
        let one : x ≡ z = same ∙ only y z first in
        absurd (not-below x (subst (λ w. cmp x w ≡ Less) (sym one)
        (All-contains (λ w. cmp x w ≡ Less) xs z (All-from_recursion (λ w. cmp x w ≡ Less) xs up) there))))
  ]

  -- a set has one ascending list at most
  pub one-ascending : (xs ys : List X) → IsStrictlySortedBy cmp xs → IsStrictlySortedBy cmp ys
      → ((z : X) → Contains xs z → Contains ys z) → ((z : X) → Contains ys z → Contains xs z) → xs ≡ ys
  unfolding IsStrictlySortedBy
  one-ascending [] [] up also into back = refl
  one-ascending [] (y ∷ ys) up also into back =
      absurd (in_nothing y (back y (Contains-append_left (y ∷ []) ys y (Contains-push [] y))))
  one-ascending (x ∷ xs) [] up also into back =
      absurd (in_nothing x (into x (Contains-append_left (x ∷ []) xs x (Contains-push [] x))))
  one-ascending (x ∷ xs) (y ∷ ys) up also into back =
      let same : x ≡ y = heads
      (Contains-append_cases (y ∷ []) ys x (into x (Contains-append_left (x ∷ []) xs x (Contains-push [] x))))
      (Contains-append_cases (x ∷ []) xs y (back y (Contains-append_left (y ∷ []) ys y (Contains-push [] y)))) in
      let rest = one-ascending xs ys up.1 also.1
      (λ z there. tail-in x y xs ys same up.0 z there (into z (Contains-append_right (x ∷ []) xs z there)))
      (λ z there. tail-in y x ys xs (sym same) also.0 z there (back z (Contains-append_right (y ∷ []) ys z there))) in
      cc
    where
      heads : (Contains (y ∷ []) x ⊎ Contains ys x) → (Contains (x ∷ []) y ⊎ Contains xs y) → x ≡ y
      heads (inl first) other = sym (only y x first)
      heads (inr behind) (inl first) = only x y first
      heads (inr behind) (inr later) =
          absurd (not-both x y (All-contains (λ w. cmp x w ≡ Less) xs y
          (All-from_recursion (λ w. cmp x w ≡ Less) xs up.0) later)
          (All-contains (λ w. cmp y w ≡ Less) ys x (All-from_recursion (λ w. cmp y w ≡ Less) ys also.0) behind))

-- what ascends by a key has keys that ascend
pub keys-ascend : {X K : Type 0} (key : X → K) (cmp : K → K → Ordering) (xs : List X)
    → IsStrictlySortedBy (on key cmp) xs → IsStrictlySortedBy cmp (map key xs)
unfolding IsStrictlySortedBy
keys-ascend key cmp [] up = tt
keys-ascend {X} {K} key cmp (x ∷ xs) up = (keys xs up.0, keys-ascend key cmp xs up.1)
  where
    keys : (ys : List X) → AllByRecursion (λ y. cmp (key x) (key y) ≡ Less) ys
        → AllByRecursion (λ k. cmp (key x) k ≡ Less) (map key ys)
    keys [] all = tt
    keys (y ∷ ys) all = (all.0, keys ys all.1)

-- what has keys that ascend ascends by the key
pub ascends-by : {X K : Type 0} (key : X → K) (cmp : K → K → Ordering) (xs : List X)
    → IsStrictlySortedBy cmp (map key xs) → IsStrictlySortedBy (on key cmp) xs
unfolding IsStrictlySortedBy
ascends-by key cmp [] up = tt
ascends-by {X} {K} key cmp (x ∷ xs) up = (elements xs up.0, ascends-by key cmp xs up.1)
  where
    elements : (ys : List X) → AllByRecursion (λ k. cmp (key x) k ≡ Less) (map key ys)
        → AllByRecursion (λ y. cmp (key x) (key y) ≡ Less) ys
    elements [] all = tt
    elements (y ∷ ys) all = (all.0, elements ys all.1)

-- lists without doubles
module _ {X : Type 0} (same : X → X → Bool) where
  each-append : (P : X → Type 0) (xs ys : List X) → AllByRecursion P xs → AllByRecursion P ys
      → AllByRecursion P (xs ++ ys)
  each-append P [] ys h k = k
  each-append P (x ∷ xs) ys h k = (h.0, each-append P xs ys h.1 k)

  others-apart : (x : X) (ys : List X) → ((y : X) → Contains ys y → same x y ≡ false)
      → AllByRecursion (λ y. same x y ≡ false) ys
  others-apart x ys apart =
      recursion_from_All (λ y. same x y ≡ false) ys
      (λ k d within. apart (get_or ys k d) (Contains-get_or ys k d within))

  pub distinct-cons : (x : X) (ys : List X) → ((y : X) → Contains ys y → same x y ≡ false) → IsDistinct same ys
      → IsDistinct same (x ∷ ys)
  distinct-cons x ys apart differ = IsDistinct-cons same x ys (others-apart x ys apart) differ

  pub distinct-append : (xs ys : List X) → IsDistinct same xs → IsDistinct same ys
      → ((x y : X) → Contains xs x → Contains ys y → same x y ≡ false) → IsDistinct same (xs ++ ys)
  distinct-append [] ys left right apart = right
  distinct-append (x ∷ xs) ys left right apart =
      IsDistinct-cons same x (xs ++ ys)
      (each-append (λ y. same x y ≡ false) xs ys (IsDistinct-head same x xs left)
      (others-apart x ys (λ y there. apart x y (Contains-append_left (x ∷ []) xs x (Contains-push [] x)) there)))
      (distinct-append xs ys (IsDistinct-tail same x xs left) right
      (λ z y there also. apart z y (Contains-append_right (x ∷ []) xs z there) also))
