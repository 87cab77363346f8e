-- Elements of lists.
use Rattle.std.proofs.Common.{◌≡◌, ◌∙◌, sym, refl, ap, subst, ℕ, zero, suc, ◌+◌, ◌<◌, Bool, true, false, cond}
use Rattle.std.proofs.Common.{List, [], ◌∷◌, ◌++◌, map, length, arith, ◌⊎◌, inl, inr}
use Rattle.std.specs.Prelude.{Option, None, Some, slice_index_or}
use Rattle.std.specs.List.{Contains, enumerate_from, filter, flat_map, position_from, range_with_len, slice_get}
use Rattle.std.specs.Option.{option_and_then, unwrap_or}

-- an element of a list
abbrev pub In : {X : Type 0} → X → List X → Type 0
In x [] = ⊥
In x (y ∷ ys) = (x ≡ y) ⊎ In x ys

pub in_map : {X Y : Type 0} (f : X → Y) (x : X) (xs : List X) → In x xs → In (f x) (map f xs)
in_map f x [] is = absurd is
in_map f x (y ∷ xs) (inl same) = inl (ap f same)
in_map f x (y ∷ xs) (inr is) = inr (in_map f x xs is)

module _ {X : Type 0} (test : X → Bool) (x : X) (passes : test x ≡ true) where
  pub in_filter : (xs : List X) → In x xs → In x (filter test xs)
  in_filter [] is = absurd is
  in_filter (y ∷ xs) (inl same) =
      subst (λ (b : Bool). In x (cond b (y ∷ filter test xs) (filter test xs)))
      (sym (ap test (sym same) ∙ passes)) (inl same)
  in_filter (y ∷ xs) (inr is) = by (test y) (in_filter xs is)
    where
      by : (b : Bool) → In x (filter test xs) → In x (cond b (y ∷ filter test xs) (filter test xs))
      by true there = inr there
      by false there = there

-- where an element of such a list is from
pub from_map : {X Y : Type 0} (f : X → Y) (y : Y) (xs : List X) → In y (map f xs) → (x : X) × In x xs × (y ≡ f x)
from_map f y [] is = absurd is
from_map f y (x ∷ xs) (inl same) = (x, inl refl, same)
from_map f y (x ∷ xs) (inr is) = let there = from_map f y xs is in (there.0, inr there.1, there.2)

pub from_append : {X : Type 0} (x : X) (xs ys : List X) → In x (xs ++ ys) → In x xs ⊎ In x ys
from_append x [] ys is = inr is
from_append x (z ∷ xs) ys (inl same) = inl (inl same)
from_append x (z ∷ xs) ys (inr is) = by (from_append x xs ys is)
  where
    by : In x xs ⊎ In x ys → In x (z ∷ xs) ⊎ In x ys
    by (inl there) = inl (inr there)
    by (inr there) = inr there

pub from_flat_map : {X Y : Type 0} (f : X → List Y) (y : Y) (xs : List X) → In y (flat_map f xs)
    → (x : X) × In x xs × In y (f x)
from_flat_map f y [] is = absurd is
from_flat_map {X = X} f y (x ∷ xs) is =
    by (from_append y (f x) (flat_map f xs) is) (λ there. from_flat_map f y xs there)
  where
    by : In y (f x) ⊎ In y (flat_map f xs) → (In y (flat_map f xs) → (z : X) × In z xs × In y (f z))
        → (z : X) × In z (x ∷ xs) × In y (f z)
    by (inl here) others = (x, inl refl, here)
    by (inr there) others = let other = others there in (other.0, inr other.1, other.2)

pub from_filter : {X : Type 0} (test : X → Bool) (x : X) (xs : List X) → In x (filter test xs)
    → In x xs × (test x ≡ true)
from_filter test x [] is = absurd is
from_filter test x (y ∷ xs) is = by (test y) refl is (from_filter test x xs)
  where
    by : (b : Bool) → test y ≡ b → In x (cond b (y ∷ filter test xs) (filter test xs))
        → (In x (filter test xs) → In x xs × (test x ≡ true)) → In x (y ∷ xs) × (test x ≡ true)
    by true e (inl same) others = (inl same, ap test same ∙ e)
    by true e (inr there) others = let other = others there in (inr other.0, other.1)
    by false e there others = let other = others there in (inr other.0, other.1)

-- numbered elements
pub from_numbered : {X : Type 0} (k : ℕ) (p : ℕ × X) (xs : List X) → In p (enumerate_from k xs)
    → (i : ℕ) × (p.0 ≡ k + i) × (slice_get xs i ≡ Some p.1)
from_numbered k p [] is = absurd is
from_numbered {X = X} k p (x ∷ xs) (inl same) =
    let first : p.0 ≡ k = ap (λ (q : ℕ × X). q.0) same in
    (zero, omega (arith, first), ap (λ (q : ℕ × X). Some q.1) (sym same))
from_numbered k p (x ∷ xs) (inr is) =
    let other = from_numbered (k + 1) p xs is in
    let number : p.0 ≡ k + 1 + other.0 = other.1 in
    (suc other.0, omega (arith, number), other.2)

-- numbers from one on
pub from_range : (a n k : ℕ) → In k (range_with_len a n) → k < a + n
from_range a zero k is = absurd is
from_range a (suc n) k (inl same) = omega (arith, same)
from_range a (suc n) k (inr is) =
    let inside : k < a + 1 + n = from_range (a + 1) n k is in omega (arith, inside)

pub in_range : (a n i : ℕ) → i < n → In (a + i) (range_with_len a n)
in_range a zero i inside = absurd (omega (arith, inside))
in_range a (suc n) zero inside = inl (omega arith)
in_range a (suc n) (suc i) inside =
    let same : a + 1 + i ≡ a + suc i = omega arith in
    inr (subst (λ (k : ℕ). In k (range_with_len (a + 1) n)) same (in_range (a + 1) n i (omega (arith, inside))))

pub in_at : {X : Type 0} (xs : List X) (i : ℕ) (x : X) → slice_get xs i ≡ Some x → In x xs
in_at [] i x e = absurd cc
in_at (y ∷ ys) zero x e = inl (sym (ap (λ o. unwrap_or o y) e))
in_at (y ∷ ys) (suc i) x e = inr (in_at ys i x e)

-- elements as contracts name them
pub contained : {X : Type 0} (xs : List X) (x : X) → In x xs → Contains xs x
contained [] x is = absurd is
contained (y ∷ ys) x (inl same) = (0, omega arith, sym same)
contained (y ∷ ys) x (inr is) = let there = contained ys x is in (suc there.0, omega (arith, there.1), there.2)

pub from_contained : {X : Type 0} (xs : List X) (x : X) → Contains xs x → In x xs
from_contained [] x is = absurd (omega (arith, is.1))
from_contained (y ∷ ys) x is = by is.0 is.1 is.2 (λ there. from_contained ys x there)
  where
    by : (k : ℕ) → k < length (y ∷ ys) → slice_index_or (y ∷ ys) k x ≡ x → (Contains ys x → In x ys) → In x (y ∷ ys)
    by zero inside same others = inl (sym same)
    by (suc k) inside same others = inr (others (k, omega (arith, inside), same))

-- where no element passes a test, the one with a number doesn't
pub none_passes : {X : Type 0} (test : X → Bool) (k : ℕ) (xs : List X) (i : ℕ) (x : X)
    → position_from test k xs ≡ None → slice_get xs i ≡ Some x → test x ≡ false
none_passes test k [] i x none is = absurd cc
none_passes test k (y ∷ ys) zero x none is = by (test y) refl none
  where
    by : (b : Bool) → test y ≡ b → cond b (Some k) (position_from test (k + 1) ys) ≡ None → test x ≡ false
    by true t e = absurd cc
    by false t e = cc
none_passes test k (y ∷ ys) (suc i) x none is = by (test y) none (λ e. none_passes test (k + 1) ys i x e is)
  where
    by : (b : Bool) → cond b (Some k) (position_from test (k + 1) ys) ≡ None
        → (position_from test (k + 1) ys ≡ None → test x ≡ false) → test x ≡ false
    by true e others = absurd cc
    by false e others = others e

-- what is there
pub some_first : {X Y : Type 0} (f : X → Option Y) (o : Option X) (y : Y) → option_and_then f o ≡ Some y
    → (x : X) × (o ≡ Some x) × (f x ≡ Some y)
some_first f None y e = absurd cc
some_first f (Some x) y e = (x, refl, e)
