-- Merging two ascending lists.
use Rattle.std.proofs.Common.{◌≡◌, ◌∙◌, sym, ap, refl, subst, ◌⊎◌, ◌↔◌, inl, inr, ◌+◌, ◌<◌, Option, Some, None, List}
use Rattle.std.proofs.Common.{[], ◌∷◌, ◌++◌, length, get_or, arith, ⊎_elim}
use Rattle.std.specs.List.{AllByRecursion, Contains}
use Rattle.std.specs.declared.cmp.Ordering.{Ordering}
use Rattle.std.specs.declared.cmp.Ordering.TheVariants.{Less, Equal, Greater}
use Rattle.std.specs.Cmp.{IsTotalOrder}
use Rattle.std.specs.Ordering.{ordering_reverse}
use Rattle.std.specs.List.Sorted.{IsStrictlySortedBy}
use Rattle.std.proofs.lemmas.List.{append_assoc, append-nil}
use Rattle.std.proofs.lemmas.List.Elements.{Contains-append_left, Contains-append_right, Contains-append_cases}
use Rattle.std.proofs.lemmas.List.Elements.{Contains-push, Contains-push_cases}
use Rattle.std.proofs.lemmas.Map.Keys.{sorted_head}
use Rattle.std.proofs.lemmas.Option.{none-some, same_Some}
use Rattle.scip_model.specs.Tables.Merges.{IsMerged, AreUntied, fronts_cmp, TakesLeast}

-- both lists become shorter
pub takes_one : {X : Type 0} (cmp : X → X → Ordering) (a b a_left b_left : List X) (next : Option X) (z : X)
    → TakesLeast (fronts_cmp cmp a b) a b next a_left b_left → next ≡ Some z
    → length a_left + length b_left < length a + length b
takes_one cmp [] [] a_left b_left next z t e = absurd (none-some _ (sym t.0 ∙ e))
takes_one cmp [] (y ∷ ys) a_left b_left next z t e = omega (arith, ap length t.1, ap length t.2)
takes_one cmp (x ∷ xs) [] a_left b_left next z t e = omega (arith, ap length t.1, ap length t.2)
takes_one cmp (x ∷ xs) (y ∷ ys) a_left b_left next z t e = by (cmp x y) t
  where
    by : (o : Ordering) → TakesLeast o (x ∷ xs) (y ∷ ys) next a_left b_left
        → length a_left + length b_left < length (x ∷ xs) + length (y ∷ ys)
    by Less u = omega (arith, ap length u.1, ap length u.2)
    by Equal u = omega (arith, ap length u.1, ap length u.2)
    by Greater u = omega (arith, ap length u.1, ap length u.2)

-- two lists that have a first item compare by these
pub both_fronts : {X : Type 0} (cmp : X → X → Ordering) (a b : List X) (x y : X) → 0 < length a → x ≡ get_or a 0 x
    → 0 < length b → y ≡ get_or b 0 y → cmp x y ≡ fronts_cmp cmp a b
both_fronts cmp [] b x y some first more second = absurd (omega (arith, some))
both_fronts cmp (p ∷ ps) [] x y some first more second = absurd (omega (arith, more))
both_fronts cmp (p ∷ ps) (q ∷ qs) x y some first more second = ap (λ z. cmp z y) first ∙ ap (cmp p) second

-- an item stands in one of three lists
abbrev In3 : {X : Type 0} → X → (taken first second : List X) → Type 0
In3 x taken first second = Contains taken x ⊎ (Contains first x ⊎ Contains second x)

module _ {X : Type 0} where
  pub at_head : (x z : X) (zs : List X) → z ≡ x → Contains (z ∷ zs) x
  at_head x z zs e = Contains-append_left (z ∷ []) zs x (subst (Contains (z ∷ [])) e (Contains-push [] z))

  pub in_tail : (x z : X) (zs : List X) → Contains zs x → Contains (z ∷ zs) x
  in_tail x z zs h = Contains-append_right (z ∷ []) zs x h

  pub not_in_none : (x : X) → Contains [] x → ⊥
  not_in_none x h = omega (arith, h.1)

  pub head_or_tail : (x z : X) (zs : List X) → Contains (z ∷ zs) x → (z ≡ x) ⊎ Contains zs x
  head_or_tail x z zs h = ⊎_elim
      (λ one. ⊎_elim (λ none. absurd (not_in_none x none)) inl (Contains-push_cases [] z x one)) inr
      (Contains-append_cases (z ∷ []) zs x h)

  swap3 : (x : X) (t a b : List X) → In3 x t a b → In3 x t b a
  swap3 x t a b (inl h) = inl h
  swap3 x t a b (inr (inl h)) = inr (inr h)
  swap3 x t a b (inr (inr h)) = inr (inl h)

  give3 : (x z : X) (t a b : List X) → In3 x t (z ∷ a) b → In3 x (t ++ z ∷ []) a b
  give3 x z t a b (inl h) = inl (Contains-append_left t (z ∷ []) x h)
  give3 x z t a b (inr (inl h)) =
      ⊎_elim (λ e. inl (Contains-append_right t (z ∷ []) x (at_head x z [] e))) (λ tail. inr (inl tail))
      (head_or_tail x z a h)
  give3 x z t a b (inr (inr h)) = inr (inr h)

  back3 : (x z : X) (t a b : List X) → In3 x (t ++ z ∷ []) a b → In3 x t (z ∷ a) b
  back3 x z t a b (inl h) = ⊎_elim inl (λ e. inr (inl (at_head x z a e))) (Contains-push_cases t z x h)
  back3 x z t a b (inr (inl h)) = inr (inl (in_tail x z a h))
  back3 x z t a b (inr (inr h)) = inr (inr h)

  drop3 : (x z y : X) (t a b : List X) → z ≡ y → In3 x (t ++ z ∷ []) a (y ∷ b) → In3 x (t ++ z ∷ []) a b
  drop3 x z y t a b same (inl h) = inl h
  drop3 x z y t a b same (inr (inl h)) = inr (inl h)
  drop3 x z y t a b same (inr (inr h)) =
      ⊎_elim (λ e. inl (Contains-append_right t (z ∷ []) x (at_head x z [] (same ∙ e)))) (λ tail. inr (inr tail))
      (head_or_tail x y b h)

  keep3 : (x y : X) (t a b : List X) → In3 x t a b → In3 x t a (y ∷ b)
  keep3 x y t a b (inl h) = inl h
  keep3 x y t a b (inr (inl h)) = inr (inl h)
  keep3 x y t a b (inr (inr h)) = inr (inr (in_tail x y b h))

module _ {X : Type 0} (cmp : X → X → Ordering) where
  abbrev pub Sorted : List X → Type 0
  Sorted xs = IsStrictlySortedBy cmp xs

  abbrev pub Below : X → List X → Type 0
  Below x ys = AllByRecursion (λ y. cmp x y ≡ Less) ys

  pub suffix : (out ys : List X) → Sorted (out ++ ys) → Sorted ys
  unfolding IsStrictlySortedBy
  suffix [] ys s = s
  suffix (o ∷ out) ys s = suffix out ys s.1

  insert_below : (o : X) (out : List X) (x : X) (xs ys : List X) → Below o (out ++ x ∷ xs) → Below o (out ++ ys)
      → Below o (out ++ x ∷ ys)
  insert_below o [] x xs ys a b = (a.0, b)
  insert_below o (p ∷ out) x xs ys a b = (a.0, insert_below o out x xs ys a.1 b.1)

  pub insert : (out : List X) (x : X) (xs ys : List X) → Sorted (out ++ x ∷ xs) → Sorted (out ++ ys) → Below x ys
      → Sorted (out ++ x ∷ ys)
  unfolding IsStrictlySortedBy
  insert [] x xs ys a b below = (below, b)
  insert (o ∷ out) x xs ys a b below = (insert_below o out x xs ys a.0 b.0, insert out x xs ys a.1 b.1 below)

  -- what is kept while the lists are merged
  pub record IsMerging (first second taken first_left second_left : List X) : Type 0 where
    pub all : (x : X) → In3 x taken first_left second_left ↔ (Contains first x ⊎ Contains second x)
    pub ascends : IsStrictlySortedBy cmp first → IsStrictlySortedBy cmp second
        → IsStrictlySortedBy cmp (taken ++ first_left) × IsStrictlySortedBy cmp (taken ++ second_left)
    pub of_first : (x : X) → Contains first_left x → Contains first x
    pub of_second : (x : X) → Contains second_left x → Contains second x

  pub begins : (first second : List X) → IsMerging first second [] first second
  begins first second = record {
    all = λ x. (⊎_elim (λ none. absurd (not_in_none x none)) (λ h. h), λ h. inr h);
    ascends = λ p q. (p, q);
    of_first = λ x h. h;
    of_second = λ x h. h;
  }

  step_first : (f s t : List X) (z : X) (a b : List X) → IsMerging f s t (z ∷ a) b → (Sorted b → Below z b)
      → IsMerging f s (t ++ z ∷ []) a b
  step_first f s t z a b m below = record {
    all = λ x. (λ h. (m.all x).0 (back3 x z t a b h), λ h. give3 x z t a b ((m.all x).1 h));
    ascends = λ p q.
        let both = m.ascends p q in (
          subst Sorted (sym (append_assoc t (z ∷ []) a)) both.0,
          subst Sorted (sym (append_assoc t (z ∷ []) b)) (insert t z a b both.0 both.1 (below (suffix t b both.1))),
        );
    of_first = λ x h. m.of_first x (in_tail x z a h);
    of_second = m.of_second;
  }

  step_second : (f s t : List X) (z : X) (a b : List X) → IsMerging f s t a (z ∷ b) → (Sorted a → Below z a)
      → IsMerging f s (t ++ z ∷ []) a b
  step_second f s t z a b m below = record {
    all = λ x. (
      λ h. (m.all x).0 (swap3 x t (z ∷ b) a (back3 x z t b a (swap3 x (t ++ z ∷ []) a b h))),
      λ h. swap3 x (t ++ z ∷ []) b a (give3 x z t b a (swap3 x t a (z ∷ b) ((m.all x).1 h))),
    );
    ascends = λ p q.
        let both = m.ascends p q in (
          subst Sorted (sym (append_assoc t (z ∷ []) a)) (insert t z b a both.1 both.0 (below (suffix t a both.0))),
          subst Sorted (sym (append_assoc t (z ∷ []) b)) both.1,
        );
    of_first = m.of_first;
    of_second = λ x h. m.of_second x (in_tail x z b h);
  }

  step_both : (f s t : List X) (z y : X) (a b : List X) → IsMerging f s t (z ∷ a) (y ∷ b) → z ≡ y
      → IsMerging f s (t ++ z ∷ []) a b
  step_both f s t z y a b m same = record {
    all = λ x. (
      λ h. (m.all x).0 (back3 x z t a (y ∷ b) (keep3 x y (t ++ z ∷ []) a b h)),
      λ h. drop3 x z y t a b same (give3 x z t a (y ∷ b) ((m.all x).1 h)),
    );
    ascends = λ p q.
        let both = m.ascends p q in (
          subst Sorted (sym (append_assoc t (z ∷ []) a)) both.0,
          subst Sorted (sym (append_assoc t (z ∷ []) b)) (subst (λ (w : X). Sorted (t ++ w ∷ b)) (sym same) both.1),
        );
    of_first = λ x h. m.of_first x (in_tail x z a h);
    of_second = λ x h. m.of_second x (in_tail x y b h);
  }

  module _ (order : IsTotalOrder cmp) where
    all_below : (x y : X) (ys : List X) → cmp x y ≡ Less → Below y ys → Below x ys
    all_below x y [] less below = tt
    all_below x y (z ∷ ys) less below = (order.trans x y z less below.0, all_below x y ys less below.1)

    pub below_all : (x y : X) (ys : List X) → cmp x y ≡ Less → Sorted (y ∷ ys) → Below x (y ∷ ys)
    below_all x y ys less s = (less, all_below x y ys less (sorted_head cmp y ys s))

    pub step : (f s t a b a_left b_left : List X) (next : Option X) (z : X)
        → TakesLeast (fronts_cmp cmp a b) a b next a_left b_left → next ≡ Some z
        → AreUntied cmp f s → IsMerging f s t a b → IsMerging f s (t ++ z ∷ []) a_left b_left
    step f s t [] [] a_left b_left next z k e untied m = absurd (none-some _ (sym k.0 ∙ e))
    step f s t [] (y ∷ ys) a_left b_left next z k e untied m =
        rw (same_Some _ _ (sym e ∙ k.0), k.1, k.2) (step_second f s t y [] ys m (λ _. tt))
    step f s t (x ∷ xs) [] a_left b_left next z k e untied m =
        rw (same_Some _ _ (sym e ∙ k.0), k.1, k.2) (step_first f s t x xs [] m (λ _. tt))
    step f s t (x ∷ xs) (y ∷ ys) a_left b_left next z k e untied m = by (cmp x y) refl k
      where
        by : (o : Ordering) → cmp x y ≡ o → TakesLeast o (x ∷ xs) (y ∷ ys) next a_left b_left
            → IsMerging f s (t ++ z ∷ []) a_left b_left
        by Less h u = rw (same_Some _ _ (sym e ∙ u.0), u.1, u.2) (step_first f s t x xs (y ∷ ys) m (below_all x y ys h))
        by Equal h u = rw (same_Some _ _ (sym e ∙ u.0), u.1, u.2)
            (step_both f s t x y xs ys m
            (untied x y (m.of_first x (at_head x x xs refl)) (m.of_second y (at_head y y ys refl)) h))
        by Greater h u = rw (same_Some _ _ (sym e ∙ u.0), u.1, u.2)
            (step_second f s t y (x ∷ xs) ys m (below_all y x xs (order.antisymm y x ∙ ap ordering_reverse h)))

  all_taken : (f s t : List X) → IsMerging f s t [] [] → IsMerged cmp f s t
  all_taken f s t m = record {
    all = λ x. (
      λ h. (m.all x).0 (inl h),
      λ h. ⊎_elim (λ taken. taken)
          (⊎_elim (λ none. absurd (not_in_none x none)) (λ none. absurd (not_in_none x none))) ((m.all x).1 h),
    );
    ascends = λ p q. subst Sorted (append-nil t) (m.ascends p q).0;
  }

  pub ends : (f s t a b a_left b_left : List X) (next : Option X)
      → TakesLeast (fronts_cmp cmp a b) a b next a_left b_left → next ≡ None → IsMerging f s t a b → IsMerged cmp f s t
  ends f s t [] [] a_left b_left next k e m = all_taken f s t m
  ends f s t [] (y ∷ ys) a_left b_left next k e m = absurd (none-some _ (sym e ∙ k.0))
  ends f s t (x ∷ xs) [] a_left b_left next k e m = absurd (none-some _ (sym e ∙ k.0))
  ends f s t (x ∷ xs) (y ∷ ys) a_left b_left next k e m = by (cmp x y) k
    where
      by : (o : Ordering) → TakesLeast o (x ∷ xs) (y ∷ ys) next a_left b_left → IsMerged cmp f s t
      by Less u = absurd (none-some _ (sym e ∙ u.0))
      by Equal u = absurd (none-some _ (sym e ∙ u.0))
      by Greater u = absurd (none-some _ (sym e ∙ u.0))
