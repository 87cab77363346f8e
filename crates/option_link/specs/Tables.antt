-- The table in which declarations are looked for, and what is found there.
use Rattle.std.specs.Prelude.{◌≡◌, ◌<◌, ◌↔◌, ℕ, Bool, true, IsTrue, Some}
use Rattle.std.specs.Prelude.{List, ◌∷◌, Contains, length}
use Rattle.std.specs.List.{slice_get}
use Rattle.std.specs.List.Sorted.{IsNonDecreasingBy}
use Rattle.proto_decl.specs.Names.{hash64}
use Rattle.proto_decl.specs.Imports.{start_of}
use Rattle.proto_decl.specs.Facts.{Facts, component_spans}
use Rattle.proto_decl.specs.declared.declaration.Declaration.{Declaration}
use Rattle.proto_decl.specs.declared.declaration.DeclarationKind.TheVariants.{Message, Enum}
use Rattle.proto_decl.specs.declared.uses.Use.{Use}
use Rattle.proto_options.specs.declared.fields.FieldFact.{FieldFact}
use Rattle.proto_visibility.specs.Files.{File, HasFacts}
use Rattle.proto_visibility.specs.Knows.{NameKind, IsOwner}
use Rattle.proto_visibility.specs.Knows.NameKind.{OfDeclaration}
use Rattle.proto_visibility.specs.Sees.{Sees}
use Rattle.option_link.specs.declared.contexts.Context.{Context}
use Rattle.option_link.specs.declared.contexts.Context.TheVariants as inside
use Rattle.option_link.specs.declared.place.DeclaredPlace.{DeclaredPlace}
use Rattle.option_link.specs.declared.table.Listed.{Listed}
use Rattle.option_link.specs.Places.{Stands, StandsAs, place_at}

-- something of a file, as it is listed by its number among the others there
abbrev pub listed_by : {A : Type 0} → (hash : A → ℕ) → DeclaredPlace → A → Listed
listed_by hash place one = record { hash64 = hash one; place = place }

-- a declaration is listed by its full name
abbrev pub name_hash : Declaration → ℕ
name_hash declaration = hash64 declaration.full_name

abbrev pub listed_at : DeclaredPlace → Declaration → Listed
listed_at place declaration = listed_by name_hash place declaration

-- Of each of the first so many it is told whether this holds.
pub record TellsOf (Holds : ℕ → Type 0) (count : ℕ) (told : List Bool) : Type 0 where
  pub each : length told ≡ count
  pub right : (number : ℕ) (is : Bool) → slice_get told number ≡ Some is → IsTrue is ↔ Holds number

-- All declarations of files are listed by the numbers that their full names are hashed by, and those rise.
pub record Lists (files : List File) (listed : List Listed) : Type 0 where
  pub sorted : IsNonDecreasingBy (λ one. one.hash64) listed
  pub each : (place : DeclaredPlace) (declaration : Declaration) → Stands files place declaration
      → Contains listed (listed_at place declaration)

-- the list has what it had, and the first so many of these of a file
pub record AddsUpTo {A : Type 0} (hash : A → ℕ) (file : ℕ) (each : List A) (count : ℕ) (old new : List Listed)
    : Type 0 where
  pub kept : (one : Listed) → Contains old one → Contains new one
  pub added : (index : ℕ) (one : A) → index < count → slice_get each index ≡ Some one
      → Contains new (listed_by hash (place_at file index) one)

-- and all declarations of this file
pub record Adds (files : List File) (file : ℕ) (old new : List Listed) : Type 0 where
  pub kept : (one : Listed) → Contains old one → Contains new one
  pub added : (index : ℕ) (declaration : Declaration) → Stands files (place_at file index) declaration
      → Contains new (listed_at (place_at file index) declaration)

-- the keys rise with the numbers
abbrev pub KeysRise : {A : Type 0} → (key : A → ℕ) → List A → Type 0
KeysRise {A} key xs = (i j : ℕ) (a b : A) → i < j → slice_get xs i ≡ Some a → slice_get xs j ≡ Some b → key a < key b

-- where the first component of a use starts, and where a field's name does
abbrev pub use_start : Use → ℕ
use_start type_use = start_of (component_spans type_use.components)

abbrev pub field_start : FieldFact → ℕ
field_start fact = fact.name.start

abbrev pub name_start : Declaration → ℕ
name_start declaration = declaration.name.start

-- what has the name stands there
pub record HasName (files : List File) (name : List ℕ) (place : DeclaredPlace) : Type 0 where
  pub declaration : Declaration
  pub stands : Stands files place declaration
  pub named : declaration.full_name ≡ name

-- all places of what has the name are among these
abbrev pub AreNear : List File → (name : List ℕ) → List Listed → Type 0
AreNear files name listed = (place : DeclaredPlace) → HasName files name place
    → (one : Listed) × Contains listed one × (one.place ≡ place)

-- what has the name stands nowhere else in its file
abbrev pub IsAlone : List File → (name : List ℕ) → DeclaredPlace → Type 0
IsAlone files name place = (other : DeclaredPlace) → other.file ≡ place.file → HasName files name other → other ≡ place

-- what has the name stands there, and nothing else of its file has it
pub record IsOnly (files : List File) (file : ℕ) (name : List ℕ) (place : DeclaredPlace) : Type 0 where
  pub in_file : place.file ≡ file
  pub has : HasName files name place
  pub alone : (other : ℕ) → HasName files name (place_at file other) → other ≡ place.index

-- what stands there is of such a kind, and in a file that the file sees
pub record IsSoughtAt (files : List File) (file : ℕ) (admits : NameKind → Bool) (place : DeclaredPlace) : Type 0 where
  pub declaration : Declaration
  pub stands : Stands files place declaration
  pub admitted : admits (OfDeclaration declaration.kind) ≡ true
  pub sees : Sees files file place.file

-- and has the name
pub record IsSought (files : List File) (file : ℕ) (admits : NameKind → Bool) (name : List ℕ)
    (place : DeclaredPlace) : Type 0 where
  pub at : IsSoughtAt files file admits place
  pub named : at.declaration.full_name ≡ name

-- what has the name in the file that gives it, alone
pub record IsOwned (files : List File) (file : ℕ) (admits : NameKind → Bool) (name : List ℕ)
    (place : DeclaredPlace) : Type 0 where
  pub owner : IsOwner files file admits name place.file
  pub only : IsOnly files place.file name place

-- more words than one, of which this is the first
abbrev pub AreSeveral : (first : List ℕ) → (words : List (List ℕ)) → Type 0
AreSeveral first words = (second : List ℕ) × (others : List (List ℕ)) × (words ≡ first ∷ (second ∷ others))

-- the use of a file whose first component starts here
pub record IsUseAt (files : List File) (file start : ℕ) (type_use : Use) : Type 0 where
  pub facts : Facts
  pub known : HasFacts files file facts
  pub listed : Contains facts.uses type_use
  pub starts : use_start type_use ≡ start

-- the message or the enum in which names are looked up has a full name of its own in its file
abbrev pub IsClear : List File → Context → Type 0
IsClear files (inside.Message message) = (declaration : Declaration) × StandsAs files Message message declaration
IsClear files (inside.Enum type) = (declaration : Declaration) × StandsAs files Enum type declaration
IsClear files _ = Unit {0}
