-- Lists by their places.
use Rattle.std.proofs.Common.{◌≡◌, ℕ, zero, suc, ◌<◌, Some, List, [], ◌∷◌, refl, subst, arith}
use Rattle.std.specs.declared.cmp.Ordering.{Ordering}
use Rattle.std.specs.declared.cmp.Ordering.TheVariants.{Less}
use Rattle.std.specs.List.{AllByRecursion, AllZip, slice_get}
use Rattle.std.specs.List.Sorted.{IsStrictlySortedBy}
use Rattle.std.proofs.lemmas.Option.{same_Some, none-some}

-- what one list has at a place has something beside it in the other
pub beside : {X Y : Type 0} (R : X → Y → Type 0) (xs : List X) (ys : List Y) (k : ℕ) (x : X) → AllZip R xs ys
    → slice_get xs k ≡ Some x → (y : Y) × (slice_get ys k ≡ Some y)
beside R [] ys k x all at = absurd (none-some x at)
beside R (a ∷ xs) [] k x all at = absurd all
beside R (a ∷ xs) (b ∷ ys) zero x all at = (b, refl)
beside R (a ∷ xs) (b ∷ ys) (suc k) x all at = beside R xs ys k x all.1 at

module _ {X : Type 0} (cmp : X → X → Ordering) where
  all_behind : (x : X) (ys : List X) → ((k : ℕ) (y : X) → slice_get ys k ≡ Some y → cmp x y ≡ Less)
      → AllByRecursion (λ y. cmp x y ≡ Less) ys
  all_behind x [] each = tt
  all_behind x (y ∷ ys) each = (each zero y refl, all_behind x ys (λ k z at. each (suc k) z at))

  -- a list ascends where of two of its places the later has the greater
  pub rising_from_places : (xs : List X)
      → ((i j : ℕ) (x y : X) → i < j → slice_get xs i ≡ Some x → slice_get xs j ≡ Some y → cmp x y ≡ Less)
      → IsStrictlySortedBy cmp xs
  unfolding IsStrictlySortedBy
  rising_from_places [] each = tt
  rising_from_places (x ∷ xs) each = (
    all_behind x xs (λ k y at. each zero (suc k) x y (omega arith) refl at),
    rising_from_places xs (λ i j a b less at and. each (suc i) (suc j) a b (omega (arith, less)) at and),
  )

  behind_at : (x : X) (ys : List X) (k : ℕ) (y : X) → AllByRecursion (λ z. cmp x z ≡ Less) ys → slice_get ys k ≡ Some y
      → cmp x y ≡ Less
  behind_at x [] k y all at = absurd (none-some y at)
  behind_at x (z ∷ ys) zero y all at = let P : X → Type 0 = λ w. cmp x w ≡ Less in subst P (same_Some z y at) all.0
  behind_at x (z ∷ ys) (suc k) y all at = behind_at x ys k y all.1 at

  -- and the other way round
  pub rising_at : (xs : List X) (i j : ℕ) (x y : X) → IsStrictlySortedBy cmp xs → i < j → slice_get xs i ≡ Some x
      → slice_get xs j ≡ Some y → cmp x y ≡ Less
  unfolding IsStrictlySortedBy
  rising_at [] i j x y up less at and = absurd (none-some x at)
  rising_at (z ∷ xs) i zero x y up less at and = absurd (omega (arith, less))
  rising_at (z ∷ xs) zero (suc j) x y up less at and = let P : X → Type 0 = λ w. cmp w y ≡ Less in
      subst P (same_Some z x at) (behind_at z xs j y up.0 and)
  rising_at (z ∷ xs) (suc i) (suc j) x y up less at and = rising_at xs i j x y up.1 (omega (arith, less)) at and
