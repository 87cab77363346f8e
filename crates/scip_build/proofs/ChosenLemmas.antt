-- One more choice, for the next declaration.
use Rattle.std.proofs.Common.{◌≡◌, ◌∙◌, ℕ, ◌+◌, ◌<◌, List, [], ◌∷◌, ◌++◌, length, take, get_or, ap, sym, subst}
use Rattle.std.specs.List.{AllZip}
use Rattle.std.proofs.lemmas.List.{take_more}
use Rattle.basics.proofs.ListLemmas.{zip_push as AllZip-push}

module _ {A B : Type 0} (R : A → B → Type 0) (xs : List A) (ys : List B) (i : ℕ) where
  pub one_more : (x : A) (y : B) → i < length xs → x ≡ get_or xs i x → AllZip R (take i xs) ys → R x y
      → AllZip R (take (i + 1) xs) (ys ++ y ∷ [])
  one_more x y within is all r =
      let P : List A → Type 0 = λ front. AllZip R front (ys ++ y ∷ []) in
      let front : take i xs ++ x ∷ [] ≡ take (i + 1) xs =
      ap (λ a. take i xs ++ a ∷ []) is ∙ sym (take_more xs i x within) in
      subst P front (AllZip-push R (take i xs) ys x y all r)
