-- What is added to a list of uncertain uses.
use Rattle.std.specs.Prelude.{◌≡◌, ◌↔◌, ◌⊎◌, ◌<◌, ℕ, List, Contains}
use Rattle.std.specs.List.{AllPairs}
use Rattle.proto_decl.specs.declared.uses.Use.{Use}
use Rattle.proto_visibility.specs.Files.{File}
use Rattle.proto_link.specs.declared.uncertain_use.UncertainUse.{UncertainUse}
use Rattle.proto_link.specs.Uncertain.{HasNoFacts, HasTarget, IsFoundFarther, IsUncertain}

-- the files without facts, of the first so many
pub record AreUnread (files : List File) (count : ℕ) (numbers : List ℕ) : Type 0 where
  pub each : (number : ℕ) → Contains numbers number ↔ ((number < count) × HasNoFacts files number)
  pub rising : AllPairs (λ a b. a < b) numbers

-- the list has what it had, and besides just these
abbrev pub Adds : (UncertainUse → Type 0) → (old new : List UncertainUse) → Type 0
Adds IsNew old new = (x : UncertainUse) → Contains new x ↔ (Contains old x ⊎ IsNew x)

-- the use names a type, but is found so far out that it may name another one
abbrev pub MayChange : List File → (file : ℕ) → Use → Type 0
MayChange files file type_use = IsFoundFarther files file type_use × HasTarget files file type_use

-- this use of a file does, behind this file
pub record IsDoubtedUse (files : List File) (file behind : ℕ) (type_use : Use) (uncertain : UncertainUse)
    : Type 0 where
  pub may : MayChange files file type_use
  pub is : uncertain ≡ record { place = record { file = file; span = type_use.span }; behind = behind }

-- one of these uses does
pub record IsDoubted (files : List File) (file behind : ℕ) (uses : List Use) (uncertain : UncertainUse)
    : Type 0 where
  pub type_use : Use
  pub listed : Contains uses type_use
  pub is : IsDoubtedUse files file behind type_use uncertain

-- a use of this file is uncertain
pub record IsDoubtedIn (files : List File) (file : ℕ) (uncertain : UncertainUse) : Type 0 where
  pub is : IsUncertain files uncertain
  pub there : uncertain.place.file ≡ file
