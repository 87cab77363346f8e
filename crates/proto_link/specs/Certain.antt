-- A use that isn't uncertain names what it named, however files without facts are mended; one that is may not.
use Rattle.std.specs.Prelude.{◌≡◌, ◌≢◌, ℕ, Bool, true, List, Contains}
use Rattle.std.specs.List.{slice_get}
use Rattle.proto_decl.specs.Facts.{Facts}
use Rattle.proto_decl.specs.declared.declaration.Declaration.{Declaration}
use Rattle.proto_decl.specs.declared.uses.Use.{Use}
use Rattle.proto_visibility.specs.Files.{File, HasFacts, HaveOrigins, IsSource}
use Rattle.proto_visibility.specs.Knows.{NameKind, SeesGiving}
use Rattle.proto_link.specs.declared.target.Target.{Target}
use Rattle.proto_link.specs.declared.uncertain_use.UncertainUse.{UncertainUse}
use Rattle.proto_link.specs.Mended.{AreMended}
use Rattle.proto_link.specs.Resolves.{wanted}
use Rattle.proto_link.specs.Targets.{IsTarget}
use Rattle.proto_link.specs.Uncertain.{IsUncertain}

-- behind no file the use is uncertain
abbrev pub IsCertain : List File → (file : ℕ) → Use → Type 0
IsCertain files file type_use = (behind : ℕ)
    → IsUncertain files (record { place = record { file = file; span = type_use.span }; behind = behind }) → ⊥

-- a name of any kind
abbrev pub is_any : NameKind → Bool
is_any kind = true

-- Of the mended files that a file sees, no other one gives a name that it declares, and the name that the use names is
-- given by no more than gave it.
pub record NothingClashes (files mended : List File) (file : ℕ) (type_use : Use) (name : List ℕ) : Type 0 where
  pub own : (facts : Facts) (declaration : Declaration) → HasFacts mended file facts
      → Contains facts.declarations declaration → (seen : ℕ)
      → SeesGiving mended file is_any declaration.full_name seen → seen ≡ file
  pub given : (seen : ℕ) → SeesGiving mended file (wanted type_use.is_extended) name seen
      → SeesGiving files file (wanted type_use.is_extended) name seen

-- A use that isn't uncertain names what it named, if nothing clashes.
abbrev pub CertainResolvesAlike : Type 0
CertainResolvesAlike = (files mended : List File) → AreMended files mended → HaveOrigins mended
    → (file : ℕ) → IsSource files file → (facts : Facts) → HasFacts files file facts
    → (type_use : Use) → Contains facts.uses type_use → (target : Target) → IsTarget files file type_use target
    → IsCertain files file type_use → NothingClashes files mended file type_use target.name
    → IsTarget mended file type_use target

-- the two lists have the same file by each other number
abbrev pub OnlyDiffers : (files others : List File) → (number : ℕ) → Type 0
OnlyDiffers files others number = (other : ℕ) → other ≢ number → slice_get others other ≡ slice_get files other

-- For each that is there are facts of the file behind, be they of a text or not, with which it doesn't name what it
-- named. No other file changes.
abbrev pub UncertainMayChange : Type 0
UncertainMayChange = (files : List File) → HaveOrigins files → (uncertain : UncertainUse)
    → (is : IsUncertain files uncertain) → (target : Target)
    → IsTarget files uncertain.place.file is.type_use target
    → (mended : List File) × AreMended files mended × OnlyDiffers files mended uncertain.behind
    × (IsTarget mended uncertain.place.file is.type_use target → ⊥)
