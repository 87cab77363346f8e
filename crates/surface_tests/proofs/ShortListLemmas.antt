-- What is known of short lists.
use Rattle.std.proofs.Common.{◌≡◌, ℕ, zero, suc, List, [], ◌∷◌, Some, refl}
use Rattle.std.specs.List.{slice_get}
use Rattle.std.proofs.lemmas.Option.{none-some, same_Some}

-- what a list of one has
pub at_one : {A : Type 0} (x : A) (k : ℕ) (y : A) → slice_get (x ∷ []) k ≡ Some y → (k ≡ 0) × (x ≡ y)
at_one x zero y at = (refl, same_Some x y at)
at_one x (suc k) y at = absurd (none-some y at)
