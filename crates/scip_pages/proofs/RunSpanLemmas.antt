-- The narrowest of the spans of a byte.
use Rattle.std.proofs.Common.{◌≡◌, ◌∙◌, refl, subst, ℕ, ◌<◌, ◌≤◌, Bool, true, false, cond, nat_lt, List, [], ◌∷◌}
use Rattle.std.proofs.Common.{◌⊎◌, inl, inr, arith}
use Rattle.std.specs.Prelude.{Option, None, Some, fold}
use Rattle.std.specs.List.{AllByRecursion}
use Rattle.std.proofs.lemmas.Bool.{ltb-true, ltb-false, both_ways}
use Rattle.scip_pages.specs.declared.runs.Span.{Span}
use Rattle.scip_pages.specs.Runs.{covers, width, narrower}
use Rattle.scip_pages.specs.RunLaws.{NoneCovers, NoneIsNarrower}

abbrev chosen : ℕ → Option Span → Span → Option Span
chosen at found span = cond (covers span at) (Some (narrower found span)) found

abbrev found_from : ℕ → Option Span → List Span → Option Span
found_from at found spans = fold (chosen at) found spans

-- nothing is found in the end where nothing was at first, and nothing covers the byte
nothing : (at : ℕ) (found : Option Span) (spans : List Span) → found_from at found spans ≡ None
    → (found ≡ None) × AllByRecursion (λ (other : Span). covers other at ≡ false) spans
nothing at found [] e = (e, tt)
nothing at found (x ∷ spans) e = by (covers x at) refl (nothing at (chosen at found x) spans e)
  where
    by : (b : Bool) → covers x at ≡ b
        → (cond (covers x at) (Some (narrower found x)) found ≡ None)
        × AllByRecursion (λ (other : Span). covers other at ≡ false) spans
        → (found ≡ None) × AllByRecursion (λ (other : Span). covers other at ≡ false) (x ∷ spans)
    by true is rest = let never : Some (narrower found x) ≡ None =
        subst (λ (c : Bool). cond c (Some (narrower found x)) found ≡ None) is rest.0 in absurd cc
    by false is rest = let same : found ≡ None =
        subst (λ (c : Bool). cond c (Some (narrower found x)) found ≡ None) is rest.0 in (same, (is, rest.1))

pub none_covers : NoneCovers
none_covers spans at e = (nothing at None spans e).1

-- the narrower of two is one of them, and no wider than either
narrower_of_two : (found other : Span)
    → (width (narrower (Some found) other) ≤ width found) × (width (narrower (Some found) other) ≤ width other)
narrower_of_two found other = by (nat_lt (width other) (width found)) refl
  where
    by : (b : Bool) → nat_lt (width other) (width found) ≡ b
        → (width (cond b other found) ≤ width found) × (width (cond b other found) ≤ width other)
    by true less = let l : width other < width found = ltb-true (width other) (width found) less in
        (omega (arith, l), omega arith)
    by false least = let l : width found ≤ width other = ltb-false (width other) (width found) least in
        (omega arith, omega (arith, l))

within_both : (found : Option Span) (other : Span)
    → (width (narrower found other) ≤ width other)
    × ((t : Span) → found ≡ Some t → width (narrower found other) ≤ width t)
within_both None other = (omega arith, λ t e. absurd cc)
within_both (Some f) other = (
  (narrower_of_two f other).1,
  λ t e. let same : f ≡ t = cc in
      subst (λ (s : Span). width (narrower (Some f) other) ≤ width s) same (narrower_of_two f other).0,
)

one_of_both : (found : Option Span) (other : Span)
    → (narrower found other ≡ other) ⊎ (found ≡ Some (narrower found other))
one_of_both None other = inl refl
one_of_both (Some f) other = by (nat_lt (width other) (width f))
  where
    by : (b : Bool) → (cond b other f ≡ other) ⊎ (Some f ≡ Some (cond b other f))
    by true = inl refl
    by false = inr refl

-- what the narrower of two is once, it is one of them
from_both : (at : ℕ) (found : Option Span) (x span : Span) → covers x at ≡ true
    → (covers span at ≡ true) ⊎ (Some (narrower found x) ≡ Some span)
    → (narrower found x ≡ x) ⊎ (found ≡ Some (narrower found x)) → (covers span at ≡ true) ⊎ (found ≡ Some span)
from_both at found x span is (inl hit) one = inl hit
from_both at found x span is (inr same) (inl own) = let n : x ≡ span = cc in
    inl (subst (λ (s : Span). covers s at ≡ true) n is)
from_both at found x span is (inr same) (inr old) = inr (old ∙ same)

abbrev Outcome : ℕ → Option Span → List Span → Span → Type 0
Outcome at found spans span =
    ((covers span at ≡ true) ⊎ (found ≡ Some span))
    × AllByRecursion (λ (other : Span). covers other at ≡ true → width span ≤ width other) spans
    × ((t : Span) → found ≡ Some t → width span ≤ width t)

narrowest : (at : ℕ) (found : Option Span) (spans : List Span) (span : Span) → found_from at found spans ≡ Some span
    → Outcome at found spans span
narrowest at found [] span e =
    (inr e, tt, λ t f. let same : span ≡ t = cc in subst (λ (s : Span). width span ≤ width s) same (omega arith))
narrowest at found (x ∷ spans) span e = by (covers x at) refl (narrowest at (chosen at found x) spans span e)
  where
    by : (b : Bool) → covers x at ≡ b → Outcome at (chosen at found x) spans span → Outcome at found (x ∷ spans) span
    by true is rest =
        let r : Outcome at (Some (narrower found x)) spans span =
        subst (λ (c : Bool). Outcome at (cond c (Some (narrower found x)) found) spans span) is rest in
        let n : width span ≤ width (narrower found x) = r.2 (narrower found x) refl in (
          from_both at found x span is r.0 (one_of_both found x),
          ((λ hit. omega (arith, n, (within_both found x).0)), r.1),
          λ t f. omega (arith, n, (within_both found x).1 t f),
        )
    by false is rest =
        let r : Outcome at found spans span =
        subst (λ (c : Bool). Outcome at (cond c (Some (narrower found x)) found) spans span) is rest in
        (r.0, ((λ hit. absurd (both_ways (covers x at) is hit)), r.1), r.2)

pub none_is_narrower : NoneIsNarrower
none_is_narrower spans at span e = let n = narrowest at None spans span e in (of n.0, n.1)
  where
    of : (covers span at ≡ true) ⊎ (None ≡ Some span) → covers span at ≡ true
    of (inl hit) = hit
    of (inr miss) = absurd cc
