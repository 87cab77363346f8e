-- Merging two ascending lists of which the first goes before, and what a sort leaves of a list with doubles.
use Rattle.std.proofs.Common.{◌≡◌, ◌∙◌, sym, ap, refl, subst, ◌⊎◌, ◌↔◌, inl, inr, Option, Some, None, List, []}
use Rattle.std.proofs.Common.{◌∷◌, ◌++◌, map, ⊎_elim}
use Rattle.std.specs.List.{Contains, dedup}
use Rattle.std.specs.declared.cmp.Ordering.{Ordering}
use Rattle.std.specs.declared.cmp.Ordering.TheVariants.{Less, Equal, Greater}
use Rattle.std.specs.Cmp.{IsTotalOrder, Equal-is}
use Rattle.std.specs.Ordering.{ordering_reverse, eq_by_cmp, on}
use Rattle.std.specs.List.Sorted.{IsStrictlySortedBy, IsSorted, IsPermutation}
use Rattle.std.proofs.lemmas.Cmp.{eq_by_cmp_equiv, on_total}
use Rattle.std.proofs.lemmas.List.{append_assoc, append-nil}
use Rattle.std.proofs.lemmas.List.Elements.{All-from_recursion, All-contains, Contains-append_left}
use Rattle.std.proofs.lemmas.List.Elements.{Contains-append_right, Contains-push_cases}
use Rattle.std.proofs.lemmas.List.Kept.{Any-dedup, Contains-from_dedup, IsStrictlySortedBy-dedup}
use Rattle.std.proofs.lemmas.List.Sorted.{Contains-permutation, IsPermutation-sym}
use Rattle.std.proofs.lemmas.Map.Keys.{sorted_head}
use Rattle.std.proofs.lemmas.Option.{none-some, same_Some}
use Rattle.basics.proofs.ListLemmas.{contains_map}
use Rattle.scip_model.specs.Tables.Merges.{AreUntied, IsMadeSingle, IsMergedApart, NoneTied, fronts_cmp, TakesLeast}
use Rattle.scip_model.proofs.IndexSortLemmas.{keys-ascend}
use Rattle.scip_model.proofs.MergeLemmas.{Below, Sorted, at_head, below_all, head_or_tail, in_tail, insert, not_in_none}
use Rattle.scip_model.proofs.MergeLemmas.{suffix}
use Rattle.scip_model.proofs.NamedApartLemmas.{from-map}

less-equal : (o : Ordering) → o ≡ Less → o ≡ Equal → ⊥
less-equal Less p q = cc
less-equal Equal p q = cc
less-equal Greater p q = cc

module _ {X : Type 0} (cmp : X → X → Ordering) (order : IsTotalOrder cmp) where
  -- it stands in one of the lists, of which the first goes before
  abbrev InEither : X → (first second : List X) → Type 0
  InEither x first second = Contains first x ⊎ (Contains second x × NoneTied cmp first x)

  -- what is kept while the lists are merged
  pub record IsMergingApart (first second taken first_left second_left : List X) : Type 0 where
    pub all : (x : X) → (Contains taken x ⊎ InEither x first_left second_left) ↔ InEither x first second
    pub ascends : IsStrictlySortedBy cmp (taken ++ first_left) × IsStrictlySortedBy cmp (taken ++ second_left)

  pub begins-apart : (first second : List X) → Sorted cmp first → Sorted cmp second
      → IsMergingApart first second [] first second
  begins-apart first second p q = record {
    all = λ x. (⊎_elim (λ none. absurd (not_in_none x none)) (λ h. h), inr);
    ascends = (p, q);
  }

  in-below : (z x : X) (ys : List X) → Below cmp z ys → Contains ys x → cmp z x ≡ Less
  in-below z x ys below there = All-contains (λ y. cmp z y ≡ Less) ys x (All-from_recursion (λ y. cmp z y ≡ Less) ys below) there

  -- without the first of a list's rest
  without-below : (o : X) (out : List X) (y : X) (ys : List X) → Below cmp o (out ++ y ∷ ys) → Below cmp o (out ++ ys)
  without-below o [] y ys below = below.1
  without-below o (p ∷ out) y ys below = (below.0, without-below o out y ys below.1)

  without : (out : List X) (y : X) (ys : List X) → Sorted cmp (out ++ y ∷ ys) → Sorted cmp (out ++ ys)
  unfolding IsStrictlySortedBy
  without [] y ys up = up.1
  without (o ∷ out) y ys up = (without-below o out y ys up.0, without out y ys up.1)

  tied-below : (z y : X) (ys : List X) → cmp z y ≡ Equal → Below cmp y ys → Below cmp z ys
  tied-below z y [] tie below = tt
  tied-below z y (w ∷ ys) tie below = (order.congr z y w tie ∙ below.0, tied-below z y ys tie below.1)

  -- what comes to the taken items
  pushed : (x z : X) (taken : List X) → z ≡ x → Contains (taken ++ z ∷ []) x
  pushed x z taken same = Contains-append_right taken (z ∷ []) x (at_head x z [] same)

  step-first : (f s t : List X) (z : X) (a b : List X) → IsMergingApart f s t (z ∷ a) b → Below cmp z b
      → IsMergingApart f s (t ++ z ∷ []) a b
  step-first f s t z a b m below = record {
    all = λ x. (
      ⊎_elim
          (λ pushed. ⊎_elim (λ h. (m.all x).0 (inl h)) (λ same. (m.all x).0 (inr (inl (at_head x z a same))))
          (Contains-push_cases t z x pushed))
          (⊎_elim (λ h. (m.all x).0 (inr (inl (in_tail x z a h))))
          (λ h. (m.all x).0 (inr (inr (
            h.0,
            λ other there tie. ⊎_elim
                (λ same. less-equal (cmp other x) (subst (λ w. cmp w x ≡ Less) same (in-below z x b below h.0)) tie)
                (λ later. h.1 other later tie) (head_or_tail other z a there),
          ))))),
      λ h. ⊎_elim (λ taken. inl (Contains-append_left t (z ∷ []) x taken))
          (⊎_elim (λ first. ⊎_elim (λ same. inl (pushed x z t same)) (λ later. inr (inl later)) (head_or_tail x z a first))
          (λ second. inr (inr (second.0, λ other there tie. second.1 other (in_tail other z a there) tie))))
          ((m.all x).1 h),
    );
    ascends = (
      subst (Sorted cmp) (sym (append_assoc t (z ∷ []) a)) m.ascends.0,
      subst (Sorted cmp) (sym (append_assoc t (z ∷ []) b)) (insert cmp t z a b m.ascends.0 m.ascends.1 below),
    );
  }

  step-second : (f s t : List X) (y : X) (a b : List X) → IsMergingApart f s t a (y ∷ b) → Below cmp y a
      → IsMergingApart f s (t ++ y ∷ []) a b
  step-second f s t y a b m below = record {
    all = λ x. (
      ⊎_elim
          (λ pushed. ⊎_elim (λ h. (m.all x).0 (inl h))
          (λ same. (m.all x).0 (inr (inr (
            at_head x y b same,
            λ other there tie.
                let less : cmp x other ≡ Less = subst (λ w. cmp w other ≡ Less) same (in-below y other a below there) in
                let greater : cmp other x ≡ Greater = order.antisymm other x ∙ ap ordering_reverse less in
                let bad : Greater ≡ Equal = sym greater ∙ tie in
                cc,
          ))))
          (Contains-push_cases t y x pushed))
          (⊎_elim (λ h. (m.all x).0 (inr (inl h))) (λ h. (m.all x).0 (inr (inr (in_tail x y b h.0, h.1))))),
      λ h. ⊎_elim (λ taken. inl (Contains-append_left t (y ∷ []) x taken))
          (⊎_elim (λ first. inr (inl first))
          (λ second. ⊎_elim (λ same. inl (pushed x y t same)) (λ later. inr (inr (later, second.1)))
          (head_or_tail x y b second.0)))
          ((m.all x).1 h),
    );
    ascends = (
      subst (Sorted cmp) (sym (append_assoc t (y ∷ []) a)) (insert cmp t y b a m.ascends.1 m.ascends.0 below),
      subst (Sorted cmp) (sym (append_assoc t (y ∷ []) b)) m.ascends.1,
    );
  }

  step-both : (f s t : List X) (z y : X) (a b : List X) → IsMergingApart f s t (z ∷ a) (y ∷ b) → cmp z y ≡ Equal
      → IsMergingApart f s (t ++ z ∷ []) a b
  step-both f s t z y a b m tie =
      let below : Below cmp z b = tied-below z y b tie (sorted_head cmp y b (suffix cmp t (y ∷ b) m.ascends.1)) in
      record {
        all = λ x. (
          ⊎_elim
              (λ pushed. ⊎_elim (λ h. (m.all x).0 (inl h)) (λ same. (m.all x).0 (inr (inl (at_head x z a same))))
              (Contains-push_cases t z x pushed))
              (⊎_elim (λ h. (m.all x).0 (inr (inl (in_tail x z a h))))
              (λ h. (m.all x).0 (inr (inr (
                in_tail x y b h.0,
                λ other there its. ⊎_elim
                    (λ same. less-equal (cmp other x) (subst (λ w. cmp w x ≡ Less) same (in-below z x b below h.0)) its)
                    (λ later. h.1 other later its) (head_or_tail other z a there),
              ))))),
          λ h. ⊎_elim (λ taken. inl (Contains-append_left t (z ∷ []) x taken))
              (⊎_elim (λ first. ⊎_elim (λ same. inl (pushed x z t same)) (λ later. inr (inl later))
              (head_or_tail x z a first))
              (λ second. ⊎_elim
              (λ same. absurd (second.1 z (at_head z z a refl) (subst (λ w. cmp z w ≡ Equal) same tie)))
              (λ later. inr (inr (later, λ other there its. second.1 other (in_tail other z a there) its)))
              (head_or_tail x y b second.0)))
              ((m.all x).1 h),
        );
        ascends = (
          subst (Sorted cmp) (sym (append_assoc t (z ∷ []) a)) m.ascends.0,
          subst (Sorted cmp) (sym (append_assoc t (z ∷ []) b))
              (insert cmp t z a b m.ascends.0 (without t y b m.ascends.1) below),
        );
      }

  pub step-apart : (f s t a b a_left b_left : List X) (next : Option X) (z : X)
      → TakesLeast (fronts_cmp cmp a b) a b next a_left b_left → next ≡ Some z
      → IsMergingApart f s t a b → IsMergingApart f s (t ++ z ∷ []) a_left b_left
  step-apart f s t [] [] a_left b_left next z k e m = absurd (none-some _ (sym k.0 ∙ e))
  step-apart f s t [] (y ∷ ys) a_left b_left next z k e m =
      rw (same_Some _ _ (sym e ∙ k.0), k.1, k.2) (step-second f s t y [] ys m tt)
  step-apart f s t (x ∷ xs) [] a_left b_left next z k e m =
      rw (same_Some _ _ (sym e ∙ k.0), k.1, k.2) (step-first f s t x xs [] m tt)
  step-apart f s t (x ∷ xs) (y ∷ ys) a_left b_left next z k e m = by (cmp x y) refl k
    where
      by : (o : Ordering) → cmp x y ≡ o → TakesLeast o (x ∷ xs) (y ∷ ys) next a_left b_left
          → IsMergingApart f s (t ++ z ∷ []) a_left b_left
      by Less h u = rw (same_Some _ _ (sym e ∙ u.0), u.1, u.2)
          (step-first f s t x xs (y ∷ ys) m (below_all cmp order x y ys h (suffix cmp t (y ∷ ys) m.ascends.1)))
      by Equal h u = rw (same_Some _ _ (sym e ∙ u.0), u.1, u.2) (step-both f s t x y xs ys m h)
      by Greater h u = rw (same_Some _ _ (sym e ∙ u.0), u.1, u.2)
          (step-second f s t y (x ∷ xs) ys m
          (below_all cmp order y x xs (order.antisymm y x ∙ ap ordering_reverse h)
          (suffix cmp t (x ∷ xs) m.ascends.0)))

  all-taken : (f s t : List X) → IsMergingApart f s t [] [] → IsMergedApart cmp f s t
  all-taken f s t m = record {
    all = λ x. (
      λ h. (m.all x).0 (inl h),
      λ h. ⊎_elim (λ taken. taken)
          (⊎_elim (λ none. absurd (not_in_none x none)) (λ none. absurd (not_in_none x none.0))) ((m.all x).1 h),
    );
    ascends = subst (Sorted cmp) (append-nil t) m.ascends.0;
  }

  pub ends-apart : (f s t a b a_left b_left : List X) (next : Option X)
      → TakesLeast (fronts_cmp cmp a b) a b next a_left b_left → next ≡ None → IsMergingApart f s t a b
      → IsMergedApart cmp f s t
  ends-apart f s t [] [] a_left b_left next k e m = all-taken f s t m
  ends-apart f s t [] (y ∷ ys) a_left b_left next k e m = absurd (none-some _ (sym e ∙ k.0))
  ends-apart f s t (x ∷ xs) [] a_left b_left next k e m = absurd (none-some _ (sym e ∙ k.0))
  ends-apart f s t (x ∷ xs) (y ∷ ys) a_left b_left next k e m = by (cmp x y) k
    where
      by : (o : Ordering) → TakesLeast o (x ∷ xs) (y ∷ ys) next a_left b_left → IsMergedApart cmp f s t
      by Less u = absurd (none-some _ (sym e ∙ u.0))
      by Equal u = absurd (none-some _ (sym e ∙ u.0))
      by Greater u = absurd (none-some _ (sym e ∙ u.0))

-- the second list may have doubles, if only equal items are tied
pub of-single : {X : Type 0} (cmp : X → X → Ordering) (first second once both : List X) → AreUntied cmp second second
    → IsMadeSingle cmp second once → IsMergedApart cmp first once both → IsMergedApart cmp first second both
of-single cmp first second once both untied single merged = record {
  all = λ x. (
    λ h. ⊎_elim inl (λ its. inr ((single.all untied x).0 its.0, its.1)) ((merged.all x).0 h),
    λ h. (merged.all x).1 (⊎_elim inl (λ its. inr ((single.all untied x).1 its.0, its.1)) h),
  );
  ascends = merged.ascends;
}

-- what a sort leaves, without those that are tied with the one before
module _ {P X : Type 0} (f : P → X) (cmp : X → X → Ordering) (order : IsTotalOrder cmp) where
  pub made-single : (list sorted once : List P) → IsPermutation list sorted → IsSorted (on f cmp) sorted
      → once ≡ dedup (eq_by_cmp (on f cmp)) sorted → IsMadeSingle cmp (map f list) (map f once)
  made-single list sorted once moved up kept = record {
    all = λ untied x. (there, back untied x);
    ascends = keys-ascend f cmp once
        (subst (IsStrictlySortedBy (on f cmp)) (sym kept)
        (IsStrictlySortedBy-dedup (on_total f order) (λ p q. refl) sorted up));
  }
    where
      there : {x : X} → Contains (map f once) x → Contains (map f list) x
      there {x} h =
          let of = from-map f once x h in
          subst (Contains (map f list)) of.2
          (contains_map f list of.0
          (Contains-permutation sorted list of.0 (IsPermutation-sym list sorted moved)
          (Contains-from_dedup (eq_by_cmp (on f cmp)) sorted of.0
          (subst (λ (its : List P). Contains its of.0) kept of.1))))

      back : AreUntied cmp (map f list) (map f list) → (x : X) → Contains (map f list) x → Contains (map f once) x
      back untied x h =
          let of = from-map f list x h in
          let any = Any-dedup (eq_by_cmp_equiv (on_total f order)) sorted of.0
          (Contains-permutation list sorted of.0 moved of.1) in
          let stays : Contains once any.1 = subst (λ (its : List P). Contains its any.1) (sym kept) (any.0, any.2, any.3) in
          let same = untied (f of.0) (f any.1) (contains_map f list of.0 of.1) (there (contains_map f once any.1 stays))
          ((Equal-is (cmp (f of.0) (f any.1))).0 any.4) in
          subst (Contains (map f once)) (sym same ∙ of.2) (contains_map f once any.1 stays)
