-- What names in options of a source name, in a part of files and in the whole.
use Rattle.std.specs.Prelude.{◌≡◌, ◌↔◌, ℕ, false, Some, List, map}
use Rattle.std.specs.List.{slice_get}
use Rattle.proto_options.specs.declared.names.OptionName.{OptionName}
use Rattle.proto_options.specs.declared.options.FileOption.{FileOption}
use Rattle.proto_visibility.specs.Files.{File, HaveOwnPaths, IsSource}
use Rattle.proto_visibility.specs.Reaches.{LinksOptions}
use Rattle.proto_visibility.specs.Parts.{HasAllReached, IsPart, entity_at}
use Rattle.option_link.specs.declared.facts.OptionFacts.{OptionFacts}
use Rattle.option_link.specs.declared.target.OptionTarget.{OptionTarget}
use Rattle.option_link.specs.OptionNames.{IsGap, IsOptionTarget}

-- Beside its facts the same is known of a file as of another: its fields, what its messages say, and its options if it
-- is a source.
pub record IsKnownAlike (known theirs : List OptionFacts) (number there : ℕ) (file : File) : Type 0 where
  pub own : OptionFacts
  pub other : OptionFacts
  pub of_own : slice_get known number ≡ Some own
  pub of_other : slice_get theirs there ≡ Some other
  pub fields : own.fields ≡ other.fields
  pub messages : own.messages ≡ other.messages
  pub options : file.is_included ≡ false → own.options ≡ other.options

-- of each file of the part, as of the one that it is in the whole
abbrev pub AreKnownAlike : (part : List File) → (at : ℕ → ℕ) → (known theirs : List OptionFacts) → Type 0
AreKnownAlike part at known theirs = (number : ℕ) (file : File) → slice_get part number ≡ Some file
    → IsKnownAlike known theirs number (at number) file

-- what a name in an option names in the part, in the whole
abbrev pub option_target_at : (at : ℕ → ℕ) → OptionTarget → OptionTarget
option_target_at at target = record { name_number = target.name_number; parts = map (entity_at at) target.parts }

-- Of these two targets, in the part and in the whole, the names are one, and they name one declaration.
pub record AreOne {part whole : List File} {known theirs : List OptionFacts} {source there : ℕ} {text : List ℕ}
    {option : FileOption} {target other : OptionTarget} (one : IsOptionTarget part known source text option target)
    (its : IsOptionTarget whole theirs there text option other) : Type 0 where
  pub name : one.name ≡ its.name
  pub declaration : one.parts.declaration ≡ its.parts.declaration

-- what an option names in the part, it names in the whole
pub record NamesThere (part whole : List File) (known theirs : List OptionFacts) (at : ℕ → ℕ) (source : ℕ)
    (text : List ℕ) (option : FileOption) (target : OptionTarget)
    (is : IsOptionTarget part known source text option target) : Type 0 where
  pub its : IsOptionTarget whole theirs (at source) text option (option_target_at at target)
  pub one : AreOne is its

-- what it names in the whole, it names in the part, by the numbers that files have there
pub record NamesHere (part whole : List File) (known theirs : List OptionFacts) (at : ℕ → ℕ) (source : ℕ)
    (text : List ℕ) (option : FileOption) (target : OptionTarget)
    (is : IsOptionTarget whole theirs (at source) text option target) : Type 0 where
  pub own : OptionTarget
  pub same : option_target_at at own ≡ target
  pub its : IsOptionTarget part known source text option own
  pub one : AreOne its is

-- The laws: in a part that has what its sources reach an option of a source names what it names in the whole, and has
-- its gap there.
pub record PartsNameAlike : Type 0 where
  pub never_invented : (part whole : List File) (at : ℕ → ℕ) (known theirs : List OptionFacts) → HaveOwnPaths part
      → IsPart part whole at → HasAllReached part whole at → AreKnownAlike part at known theirs → (source : ℕ)
      → IsSource part source → LinksOptions part source → (text : List ℕ) (option : FileOption) (target : OptionTarget)
      (is : IsOptionTarget part known source text option target)
      → NamesThere part whole known theirs at source text option target is
  pub never_lost : (part whole : List File) (at : ℕ → ℕ) (known theirs : List OptionFacts) → HaveOwnPaths part
      → IsPart part whole at → HasAllReached part whole at → AreKnownAlike part at known theirs → (source : ℕ)
      → IsSource part source → LinksOptions part source → (text : List ℕ) (option : FileOption) (target : OptionTarget)
      (is : IsOptionTarget whole theirs (at source) text option target)
      → NamesHere part whole known theirs at source text option target is
  pub gaps : (part whole : List File) (at : ℕ → ℕ) (known theirs : List OptionFacts) → HaveOwnPaths part
      → IsPart part whole at → HasAllReached part whole at → AreKnownAlike part at known theirs → (source : ℕ)
      → IsSource part source → LinksOptions part source → (text : List ℕ) (option : FileOption) (number : ℕ)
      (name : OptionName)
      → IsGap part known source text option number name ↔ IsGap whole theirs (at source) text option number name
