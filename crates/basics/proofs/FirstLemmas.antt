-- The first item of a list that passes a test; items and their numbers.
use Rattle.std.proofs.Common.{◌≡◌, inl, inr, ℕ, ◌<◌, ◌≤◌, Bool, true, false, List, [], ◌∷◌, length, get_or, Some, None}
use Rattle.std.proofs.Common.{◌∙◌, ◌+◌, ◌++◌, zero, suc, take, refl, ap, subst, arith, position}
use Rattle.std.specs.List.{Contains, slice_get, position_or_len}
use Rattle.std.proofs.lemmas.Bool.Decides.{nat_tests}
use Rattle.std.proofs.lemmas.Option.{slice_get_within, get_or_from_slice_get, slice_get_cases}
use Rattle.std.proofs.lemmas.Option.{slice_get-get_or, same_Some}
use Rattle.std.proofs.lemmas.List.Sums.{fails_before_first}
use Rattle.std.proofs.lemmas.List.Quantifiers.{position-Some}

pub position-none : {X : Type 0} (p : X → Bool) (xs : List X) → position p xs ≡ None → (k : ℕ) (d : X) → k < length xs
    → p (get_or xs k d) ≡ false
position-none p xs e k d within =
    let far : length xs ≤ position_or_len p xs = grind (arith, nat_tests) in
    fails_before_first p xs k d (omega arith)

pub found_at : {X : Type 0} (p : X → Bool) (xs : List X) (i : ℕ) → position p xs ≡ Some i
    → (x : X) × (slice_get xs i ≡ Some x) × (p x ≡ true)
found_at p xs i e = elim (slice_get_cases xs i).1 [
  | inl at ↦ (at.0, at.2, subst (λ y. p y ≡ true) at.3 (position-Some p xs i at.0 e).1)
  | inr past ↦ absurd (by xs e past.0)
]
  where
    by : (ys : List _) → position p ys ≡ Some i → length ys ≤ i → ⊥
    by [] f h = cc
    by (y ∷ ys) f h = omega (arith, (position-Some p (y ∷ ys) i y f).0)

-- ---- items and their numbers

pub contained : {X : Type 0} (xs : List X) (j : ℕ) (x : X) → slice_get xs j ≡ Some x → Contains xs x
contained xs j x e = (j, slice_get_within xs j x e, get_or_from_slice_get xs j x x e)

pub at_contained : {X : Type 0} (xs : List X) (x : X) → (there : Contains xs x) → slice_get xs there.0 ≡ Some x
at_contained xs x there = slice_get-get_or xs there.0 x there.1 ∙ ap Some there.2

pub contained_at : {X : Type 0} (xs : List X) (x : X) → Contains xs x → (k : ℕ) × (slice_get xs k ≡ Some x)
contained_at xs x there = (there.0, at_contained xs x there)

pub take_next : {X : Type 0} (xs : List X) (k : ℕ) (x : X) → slice_get xs k ≡ Some x
    → take (k + 1) xs ≡ take k xs ++ x ∷ []
take_next [] k x e = absurd (cc)
take_next (y ∷ ys) zero x e = ap (λ z. z ∷ []) (same_Some y x e)
take_next (y ∷ ys) (suc k) x e = let next : suc k + 1 ≡ suc (k + 1) = omega arith in
    rw next (ap (λ zs. y ∷ zs) (take_next ys k x e))
