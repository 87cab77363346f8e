-- A name in an option that isn't in doubt names what it named, however files without facts are mended.
use Rattle.std.specs.Prelude.{◌≡◌, ◌≤◌, ◌↔◌, ℕ, Bool, false, Some, List, Contains}
use Rattle.std.specs.List.{slice_get}
use Rattle.proto_decl.specs.Facts.{Facts}
use Rattle.proto_decl.specs.Laws.{IsScope}
use Rattle.proto_decl.specs.declared.declaration.Declaration.{Declaration}
use Rattle.proto_decl.specs.declared.declaration.DeclarationKind.{DeclarationKind}
use Rattle.proto_options.specs.declared.names.OptionName.{OptionName}
use Rattle.proto_options.specs.declared.options.FileOption.{FileOption}
use Rattle.proto_visibility.specs.Files.{File, HasFacts, HaveOrigins}
use Rattle.proto_visibility.specs.Knows.{NameKind, IsOwner, SeesGiving}
use Rattle.proto_visibility.specs.Knows.NameKind.{OfPackage}
use Rattle.proto_visibility.specs.Reaches.{HasOptionsIn}
use Rattle.proto_link.specs.Certain.{is_any}
use Rattle.proto_link.specs.Mended.{AreMended}
use Rattle.option_link.specs.declared.facts.OptionFacts.{OptionFacts}
use Rattle.option_link.specs.declared.place.DeclaredPlace.{DeclaredPlace}
use Rattle.option_link.specs.declared.target.OptionTarget.{OptionTarget}
use Rattle.option_link.specs.Fields.{IsItem, TypeAt}
use Rattle.option_link.specs.OptionNames.{IsOptionTarget, NamesPlace}
use Rattle.option_link.specs.Uncertain.{IsInDoubt}

-- no name of the option up to this one, itself or in front of it, is in doubt
abbrev pub AreCertainUpTo : List File → List OptionFacts → (file : ℕ) → (text : List ℕ) → FileOption → (number : ℕ)
    → Type 0
AreCertainUpTo files known file text option number = (before behind : ℕ) → before ≤ number
    → IsInDoubt files known file text option before behind → ⊥

-- what is known of a file with facts, beside these, is known of it among mended files
abbrev pub StaysKnown : List File → (known mended_known : List OptionFacts) → Type 0
StaysKnown files known mended_known = (number : ℕ) (facts : Facts) (beside : OptionFacts)
    → HasFacts files number facts → slice_get known number ≡ Some beside → slice_get mended_known number ≡ Some beside

-- the file has the messages of its options where it had them
abbrev pub HasOptionsAlike : (files mended : List File) → (file : ℕ) → Type 0
HasOptionsAlike files mended file = (number : ℕ) → HasOptionsIn files file number ↔ HasOptionsIn mended file number

-- Of the mended files that a file sees, no other one gives a name that it declares, and what one alone declared no other
-- one gives, of whatever kind.
pub record NoneClashes (files mended : List File) (file : ℕ) : Type 0 where
  pub own : (facts : Facts) (declaration : Declaration) → HasFacts mended file facts
      → Contains facts.declarations declaration → (seen : ℕ)
      → SeesGiving mended file is_any declaration.full_name seen → seen ≡ file
  pub given : (admits : NameKind → Bool) → admits OfPackage ≡ false → (name : List ℕ) (owner : ℕ)
      → IsOwner files file admits name owner → (seen : ℕ) → SeesGiving mended file is_any name seen → seen ≡ owner

-- A file whose types matter for what an option of a file names: this one, and each that declares what a name of the
-- option names.
pub data IsOnTheWay (files : List File) (known : List OptionFacts) (file : ℕ) (text : List ℕ) (option : FileOption)
    : ℕ → Type 0 where
  itself : IsOnTheWay files known file text option file
  of_name : {number : ℕ} {name : OptionName} {at : DeclaredPlace}
      → NamesPlace files known file text option number name at → IsOnTheWay files known file text option at.file

-- what a use of the file names, it names still
abbrev pub TypesStay : (files mended : List File) → (file : ℕ) → Type 0
TypesStay files mended file = (start : ℕ) (kind : DeclarationKind) (type : DeclaredPlace)
    → TypeAt files file start kind type → TypeAt mended file start kind type

-- what a field of the file isn't, it doesn't become: an extension of a message set that a message declares for itself
abbrev pub ItemsStay : (files mended : List File) → (known mended_known : List OptionFacts) → (file : ℕ) → Type 0
ItemsStay files mended known mended_known file = (set type field : DeclaredPlace) → field.file ≡ file
    → IsItem mended mended_known set type field → IsItem files known set type field

-- Names that aren't in doubt name what they named, if nothing clashes, the same file has the messages of options, the
-- types of the fields on the way are what they were, and no field there becomes an item of a message set.
abbrev pub CertainOptionNamesAlike : Type 0
CertainOptionNamesAlike = (files mended : List File) → AreMended files mended → HaveOrigins mended
    → (known mended_known : List OptionFacts) → StaysKnown files known mended_known
    → (file : ℕ) (facts : Facts) → HasFacts files file facts → (text : List ℕ) (option : FileOption)
    → IsScope facts option.scope → HasOptionsAlike files mended file → NoneClashes files mended file
    → ((other : ℕ) → IsOnTheWay files known file text option other → TypesStay files mended other)
    → ((other : ℕ) → IsOnTheWay files known file text option other
    → ItemsStay files mended known mended_known other)
    → (target : OptionTarget) → IsOptionTarget files known file text option target
    → AreCertainUpTo files known file text option target.name_number
    → IsOptionTarget mended mended_known file text option target
