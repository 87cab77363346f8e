-- Which names a file knows (proto3 language guide, "Packages and Name Resolution"; that a package is known only if a
-- file that is seen has it, or one below it, is the profile's), which file gives a name, and what it names there.
use Rattle.std.specs.Prelude.{◌≡◌, ◌≢◌, ◌<◌, ◌≤◌, ℕ, Bool, true, false, List, length, Contains, Some}
use Rattle.std.specs.List.{slice_get}
use Rattle.proto_decl.specs.declared.declaration.DeclarationKind.{DeclarationKind}
use Rattle.proto_decl.specs.declared.declaration.DeclarationKind.TheVariants.{Message, Enum, Service, Field, Oneof}
use Rattle.proto_decl.specs.declared.declaration.DeclarationKind.TheVariants.{Value, Method}
use Rattle.proto_decl.specs.declared.declaration.Declaration.{Declaration}
use Rattle.proto_decl.specs.Names.{package_of}
use Rattle.proto_decl.specs.Facts.{Facts}
use Rattle.proto_decl.specs.declared.uses.Component.{Component}
use Rattle.proto_visibility.specs.Files.{File, HasFacts, IsPresent}
use Rattle.proto_visibility.specs.Sees.{Sees}
use Rattle.proto_visibility.specs.declared.lookup.Role.{Role}
use Rattle.proto_visibility.specs.declared.lookup.Role.TheVariants.{AsType, AsMessage, AsAggregate}
use Rattle.proto_visibility.specs.declared.lookup.Entity.{Entity}
use Rattle.proto_visibility.specs.declared.lookup.Entity.TheVariants.{Package, Declared}

-- What a name names: a package, or what is declared.
pub data NameKind : Type 0 where
  OfPackage : NameKind
  OfDeclaration : DeclarationKind → NameKind

-- The declarations of the files that a file sees, and the packages of these files with those above them.
pub data Knows (files : List File) (file : ℕ) : List ℕ → NameKind → Type 0 where
  declared : {seen : ℕ} {facts : Facts} {declaration : Declaration}
      → Sees files file seen → HasFacts files seen facts → Contains facts.declarations declaration
      → Knows files file declaration.full_name (OfDeclaration declaration.kind)
  packaged : {seen count : ℕ} {facts : Facts}
      → Sees files file seen → HasFacts files seen facts → 0 < count → count ≤ length facts.package_name
      → Knows files file (package_of facts.package_name count) OfPackage

-- Types are messages and enums.
abbrev pub is_type : NameKind → Bool
is_type OfPackage = false
is_type (OfDeclaration Message) = true
is_type (OfDeclaration Enum) = true
is_type (OfDeclaration Service) = false
is_type (OfDeclaration Field) = false
is_type (OfDeclaration Oneof) = false
is_type (OfDeclaration Value) = false
is_type (OfDeclaration Method) = false

-- An `extend` extends a message (proto2 specification, "Extend").
abbrev pub is_message : NameKind → Bool
is_message OfPackage = false
is_message (OfDeclaration Message) = true
is_message (OfDeclaration Enum) = false
is_message (OfDeclaration Service) = false
is_message (OfDeclaration Field) = false
is_message (OfDeclaration Oneof) = false
is_message (OfDeclaration Value) = false
is_message (OfDeclaration Method) = false

-- Aggregates are packages, messages, enums and services.
abbrev pub is_aggregate : NameKind → Bool
is_aggregate OfPackage = true
is_aggregate (OfDeclaration Message) = true
is_aggregate (OfDeclaration Enum) = true
is_aggregate (OfDeclaration Service) = true
is_aggregate (OfDeclaration Field) = false
is_aggregate (OfDeclaration Oneof) = false
is_aggregate (OfDeclaration Value) = false
is_aggregate (OfDeclaration Method) = false

-- the file knows the name as one of these
pub record KnowsAs (files : List File) (file : ℕ) (admits : NameKind → Bool) (name : List ℕ) : Type 0 where
  pub kind : NameKind
  pub known : Knows files file name kind
  pub admitted : admits kind ≡ true

-- ---- the names that one file gives, and what a name is looked up as

abbrev pub admits : Role → NameKind → Bool
admits AsType kind = is_type kind
admits AsMessage kind = is_message kind
admits AsAggregate kind = is_aggregate kind

-- some first components make the name
abbrev pub IsPrefix : List Component → (name : List ℕ) → Type 0
IsPrefix components name =
    (count : ℕ) × (0 < count) × (count ≤ length components) × (name ≡ package_of components count)

-- a declaration or a package of the file
pub data DeclaresName (facts : Facts) : List ℕ → NameKind → Type 0 where
  declared : {declaration : Declaration} → Contains facts.declarations declaration
      → DeclaresName facts declaration.full_name (OfDeclaration declaration.kind)
  packaged : {name : List ℕ} → IsPrefix facts.package_name name → DeclaresName facts name OfPackage

-- the file has such a one with this name, of a kind that is admitted
pub record DeclaresNameAs (admits : NameKind → Bool) (name : List ℕ) (facts : Facts) : Type 0 where
  pub kind : NameKind
  pub gives : DeclaresName facts name kind
  pub admitted : admits kind ≡ true

pub record FileDeclaresName (admits : NameKind → Bool) (name : List ℕ) (file : File) : Type 0 where
  pub facts : Facts
  pub known : file.facts ≡ Some facts
  pub gives : DeclaresNameAs admits name facts

-- the file with this number does
pub record IsGiving (files : List File) (admits : NameKind → Bool) (name : List ℕ) (number : ℕ) : Type 0 where
  pub file : File
  pub numbered : slice_get files number ≡ Some file
  pub gives : FileDeclaresName admits name file

-- a file that is seen does
pub record SeesGiving (files : List File) (file : ℕ) (admits : NameKind → Bool) (name : List ℕ)
    (seen : ℕ) : Type 0 where
  pub sees : Sees files file seen
  pub giving : IsGiving files admits name seen

-- Of the files that a file sees, the one that gives the name: no other one does, and it isn't left out.
pub record IsOwner (files : List File) (file : ℕ) (admits : NameKind → Bool) (name : List ℕ)
    (owner : ℕ) : Type 0 where
  pub gives : SeesGiving files file admits name owner
  pub present : IsPresent files owner
  pub alone : (other : ℕ) → SeesGiving files file admits name other → other ≡ owner

-- Of the files that a file sees, two give the name that aren't left out.
pub record IsGivenTwice (files : List File) (file : ℕ) (admits : NameKind → Bool) (name : List ℕ) : Type 0 where
  pub first : ℕ
  pub second : ℕ
  pub first_gives : SeesGiving files file admits name first
  pub second_gives : SeesGiving files file admits name second
  pub first_present : IsPresent files first
  pub second_present : IsPresent files second
  pub apart : first ≢ second

-- ---- what a full name names in one file

-- the package of this many components, or the declaration, which has the name
pub data IsEntityOf (number : ℕ) (facts : Facts) (name : List ℕ) (count : ℕ) : Entity → Type 0 where
  packaged : IsPrefix facts.package_name name → IsEntityOf number facts name count (Package count)
  declared : {index : ℕ} {declaration : Declaration}
      → slice_get facts.declarations index ≡ Some declaration → declaration.full_name ≡ name
      → IsEntityOf number facts name count (Declared number index)
