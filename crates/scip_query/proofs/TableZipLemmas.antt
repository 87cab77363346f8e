-- Two lists of which each element of one stands for the element of the other: what tests keep and find in them.
use Rattle.std.proofs.Common.{◌≡◌, Bool, true, false, ◌&&◌, List, [], ◌∷◌, ◌++◌, length, map, cond, refl, ◌∙◌, ap}
use Rattle.std.proofs.Common.{subst, append_assoc}
use Rattle.std.specs.Prelude.{Option, Some}
use Rattle.std.specs.List.{filter, find, list_all, slice_get, AllZip, range_with_len}
use Rattle.std.specs.Option.{option_and_then}
use Rattle.std.proofs.lemmas.List.{length_push}
use Rattle.scip_query.specs.Tables.{numbers}

pub slice_get_at : {X : Type 0} (front : List X) (x : X) (rest : List X)
    → slice_get (front ++ x ∷ rest) (length front) ≡ Some x
slice_get_at [] x rest = refl
slice_get_at (y ∷ front) x rest = slice_get_at front x rest

zip_from : {X : Type 0} (front rest : List X)
    → AllZip (λ n x. slice_get (front ++ rest) n ≡ Some x) (range_with_len (length front) (length rest)) rest
zip_from front [] = tt
zip_from front (x ∷ rest) = (
  slice_get_at front x rest,
  subst (λ n. AllZip (λ k y. slice_get (front ++ x ∷ rest) k ≡ Some y) (range_with_len n (length rest)) rest)
      (length_push front x)
      (subst (λ l. AllZip (λ k y. slice_get l k ≡ Some y)
      (range_with_len (length (front ++ x ∷ [])) (length rest)) rest) (append_assoc front (x ∷ []) rest)
      (zip_from (front ++ x ∷ []) rest)),
)

-- the numbers of a list's elements stand for them
pub numbers_stand : {X : Type 0} (xs : List X) → AllZip (λ n x. slice_get xs n ≡ Some x) (numbers (length xs)) xs
numbers_stand xs = zip_from [] xs

module _ {A B : Type 0} (R : A → B → Type 0) (p : A → Bool) (q : B → Bool)
    (same : (a : A) (b : B) → R a b → p a ≡ q b) where
  pub zip_filter : (xs : List A) (ys : List B) → AllZip R xs ys → AllZip R (filter p xs) (filter q ys)
  zip_filter [] [] all = tt
  zip_filter [] (y ∷ ys) all = absurd all
  zip_filter (x ∷ xs) [] all = absurd all
  zip_filter (x ∷ xs) (y ∷ ys) all = by (zip_filter xs ys all.1) (q y) (same x y all.0) where
    by : AllZip R (filter p xs) (filter q ys) → (b : Bool) → p x ≡ b
        → AllZip R (filter p (x ∷ xs)) (cond b (y ∷ filter q ys) (filter q ys))
    by rest true passes = rw passes (all.0, rest)
    by rest false fails = rw fails rest

  pub zip_all : (xs : List A) (ys : List B) → AllZip R xs ys → list_all p xs ≡ list_all q ys
  zip_all [] [] all = refl
  zip_all [] (y ∷ ys) all = absurd all
  zip_all (x ∷ xs) [] all = absurd all
  zip_all (x ∷ xs) (y ∷ ys) all =
      ap (λ b. b && list_all p xs) (same x y all.0) ∙ ap (λ b. q y && b) (zip_all xs ys all.1)

-- what is found among names stands for what is found among their elements
pub zip_find : {A B : Type 0} (f : A → Option B) (p : A → Bool) (q : B → Bool)
    → ((a : A) (b : B) → f a ≡ Some b → p a ≡ q b)
    → (xs : List A) (ys : List B) → AllZip (λ a b. f a ≡ Some b) xs ys → option_and_then f (find p xs) ≡ find q ys
zip_find f p q same [] [] all = refl
zip_find f p q same [] (y ∷ ys) all = absurd all
zip_find f p q same (x ∷ xs) [] all = absurd all
zip_find f p q same (x ∷ xs) (y ∷ ys) all = by (zip_find f p q same xs ys all.1) (q y) (same x y all.0) where
  by : option_and_then f (find p xs) ≡ find q ys → (b : Bool) → p x ≡ b
      → option_and_then f (find p (x ∷ xs)) ≡ cond b (Some y) (find q ys)
  by rest true passes = rw passes all.0
  by rest false fails = rw fails rest

pub zip_append : {A B : Type 0} (R : A → B → Type 0) (xs : List A) (ys : List B) (us : List A) (vs : List B)
    → AllZip R xs ys → AllZip R us vs → AllZip R (xs ++ us) (ys ++ vs)
zip_append R [] [] us vs front back = back
zip_append R [] (y ∷ ys) us vs front back = absurd front
zip_append R (x ∷ xs) [] us vs front back = absurd front
zip_append R (x ∷ xs) (y ∷ ys) us vs front back = (front.0, zip_append R xs ys us vs front.1 back)

-- other names for the same elements
pub zip_renamed : {A B C : Type 0} (R : A → B → Type 0) (S : C → B → Type 0) (f : A → C)
    → ((a : A) (b : B) → R a b → S (f a) b) → (xs : List A) (ys : List B) → AllZip R xs ys → AllZip S (map f xs) ys
zip_renamed R S f turn [] [] all = tt
zip_renamed R S f turn [] (y ∷ ys) all = absurd all
zip_renamed R S f turn (x ∷ xs) [] all = absurd all
zip_renamed R S f turn (x ∷ xs) (y ∷ ys) all = (turn x y all.0, zip_renamed R S f turn xs ys all.1)
