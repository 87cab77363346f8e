-- What the options of a file name: a set of pairs, of a name and what it names; and the options that have a gap.
use Rattle.std.specs.Prelude.{◌≡◌, ◌≢◌, ◌<◌, ◌+◌, ◌⊎◌, ℕ, Some, List, [], ◌∷◌, length, codes}
use Rattle.std.specs.List.{slice_get}
use Rattle.proto_decl.specs.Names.{components_of, prefix_of}
use Rattle.proto_decl.specs.Facts.{Facts}
use Rattle.proto_decl.specs.declared.declaration.Declaration.{Declaration}
use Rattle.proto_options.specs.declared.names.OptionName.{OptionName}
use Rattle.proto_options.specs.declared.names.OptionRole.TheVariants as role
use Rattle.proto_options.specs.declared.options.FileOption.{FileOption}
use Rattle.proto_visibility.specs.Files.{File, HasFacts}
use Rattle.proto_visibility.specs.Knows.{IsEntityOf}
use Rattle.proto_visibility.specs.declared.lookup.Entity.{Entity}
use Rattle.proto_visibility.specs.declared.lookup.Entity.TheVariants.{Declared}
use Rattle.option_link.specs.declared.contexts.Context.{Context}
use Rattle.option_link.specs.declared.contexts.Context.TheVariants as inside
use Rattle.option_link.specs.declared.facts.OptionFacts.{OptionFacts}
use Rattle.option_link.specs.declared.place.DeclaredPlace.{DeclaredPlace}
use Rattle.option_link.specs.declared.target.OptionTarget.{OptionTarget}
use Rattle.option_link.specs.Places.{Stands}
use Rattle.option_link.specs.Contexts.{HasWords, IsReserved, LacksMessage, NamesIn, StandsIn}
use Rattle.option_link.specs.Contexts.{behind_spelled, options_message}

-- A name of an option of this file, and where what it names is declared.
pub record NamesPlace (files : List File) (known : List OptionFacts) (file : ℕ) (text : List ℕ) (option : FileOption)
    (number : ℕ) (name : OptionName) (at : DeclaredPlace) : Type 0 where
  pub numbered : slice_get option.setting.names number ≡ Some name
  pub context : Context
  pub stands : StandsIn files known file text option number context
  pub names : NamesIn files known file text option number name context at

-- What each of its components names: with k components of a full name of m, of which so many are behind those that it
-- spells, the entity of the full name up to the component's number after the first m - k that are spelled, in the file
-- that declares it; and of the last component what is declared there. A value of an enum, and a field by its simple
-- name, have one component.
pub record NamesParts (files : List File) (name : OptionName) (at : DeclaredPlace) (behind : ℕ) (parts : List Entity)
    : Type 0 where
  pub declaration : Declaration
  pub stands : Stands files at declaration
  pub facts : Facts
  pub known : HasFacts files at.file facts
  pub skipped : ℕ
  pub split : skipped + length name.name.components + behind ≡ length (components_of declaration.full_name)
  pub one_each : length parts ≡ length name.name.components
  pub named : (j : ℕ) (part : Entity) → slice_get parts j ≡ Some part → j + 1 < length parts
      → IsEntityOf at.file facts (prefix_of declaration.full_name (skipped + j + 1)) (skipped + j + 1) part
  pub last : (j : ℕ) → j + 1 ≡ length parts → slice_get parts j ≡ Some (Declared at.file at.index)

-- What an option of this file names, by the number of a name in it.
pub record IsOptionTarget (files : List File) (known : List OptionFacts) (file : ℕ) (text : List ℕ)
    (option : FileOption) (target : OptionTarget) : Type 0 where
  pub name : OptionName
  pub at : DeclaredPlace
  pub names : NamesPlace files known file text option target.name_number name at
  pub parts : NamesParts files name at (behind_spelled names.names) target.parts

-- ---- gaps

-- A name that need name nothing: a word that is given to a scalar field; `key` and `value` of a map's entries; what is
-- in options that nobody tells of; a plain part of an element's options of which there is no message; what a message
-- reserves, and what is given to that.
pub data NeedsNoTarget (files : List File) (known : List OptionFacts) (file : ℕ) (text : List ℕ) (option : FileOption)
    (number : ℕ) (name : OptionName) : Type 0 where
  word : name.role ≡ role.Value → StandsIn files known file text option number inside.Scalar
      → NeedsNoTarget files known file text option number name
  entry : {holder : DeclaredPlace} {word : List ℕ}
      → name.role ≡ role.Field → HasWords text name (word ∷ []) → (word ≡ codes "key") ⊎ (word ≡ codes "value")
      → StandsIn files known file text option number (inside.Entries holder)
      → NeedsNoTarget files known file text option number name
  untold : name.role ≢ role.Extension → StandsIn files known file text option number inside.Untold
      → NeedsNoTarget files known file text option number name
  without_message : name.role ≡ role.Field
      → LacksMessage files file (options_message option.element)
      → StandsIn files known file text option number inside.Options
      → NeedsNoTarget files known file text option number name
  reserved : {message : DeclaredPlace} → IsReserved files known text option number name message
      → StandsIn files known file text option number (inside.Message message)
      → NeedsNoTarget files known file text option number name
  skipped : StandsIn files known file text option number inside.Skipped
      → NeedsNoTarget files known file text option number name

-- A name that names nothing and should.
pub record LacksTarget (files : List File) (known : List OptionFacts) (file : ℕ) (text : List ℕ) (option : FileOption)
    (number : ℕ) (name : OptionName) : Type 0 where
  pub numbered : slice_get option.setting.names number ≡ Some name
  pub nothing : (at : DeclaredPlace) → NamesPlace files known file text option number name at → ⊥
  pub needed : NeedsNoTarget files known file text option number name → ⊥

-- The gap of an option is the first such name.
pub record IsGap (files : List File) (known : List OptionFacts) (file : ℕ) (text : List ℕ) (option : FileOption)
    (number : ℕ) (name : OptionName) : Type 0 where
  pub lacks : LacksTarget files known file text option number name
  pub first : (before : ℕ) (other : OptionName) → before < number
      → LacksTarget files known file text option before other → ⊥
