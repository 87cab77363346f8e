-- What a list gains of a kind, and what comes of the items of a list.
use Rattle.std.specs.Prelude.{◌≡◌, ◌<◌, ◌⊎◌, ◌↔◌, ℕ, Some, List, Contains}
use Rattle.std.specs.List.{slice_get}

-- the list has what it had, and besides just these
abbrev pub Adds : {Y : Type 0} → (Y → Type 0) → (old new : List Y) → Type 0
Adds IsNew old new = (x : _) → Contains new x ↔ (Contains old x ⊎ IsNew x)

-- it comes of one of the first so many items
pub record FromFront {X Y : Type 0} (IsOf : X → Y → Type 0) (xs : List X) (count : ℕ) (x : Y) : Type 0 where
  pub index : ℕ
  pub element : X
  pub within : index < count
  pub stands : slice_get xs index ≡ Some element
  pub is : IsOf element x
