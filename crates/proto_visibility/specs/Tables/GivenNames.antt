-- What the tables of names say: which declarations have each name, and which files each package.
use Rattle.std.specs.Prelude.{◌≡◌, ◌≢◌, ◌↔◌, ◌⊎◌, ℕ, ◌<◌, Bool, true, Option, Some, None, List, []}
use Rattle.std.specs.Prelude.{Contains, Vec, String, length}
use Rattle.std.specs.List.{slice_get}
use Rattle.std.specs.List.Sorted.{IsNonDecreasing}
use Rattle.std.specs.Option.{option_map_or}
use Rattle.std.specs.HashMap.{HashMap, get_by_text}
use Rattle.proto_decl.specs.Facts.{Facts}
use Rattle.proto_decl.specs.declared.declaration.Declaration.{Declaration}
use Rattle.proto_visibility.specs.declared.names.DeclaredAt.{DeclaredAt}
use Rattle.proto_visibility.specs.declared.names.Names.{Names}
use Rattle.proto_visibility.specs.Files.{File, IsPresent}
use Rattle.proto_visibility.specs.Knows.{NameKind, is_aggregate, IsPrefix}
use Rattle.proto_visibility.specs.Knows.NameKind.{OfPackage, OfDeclaration}

-- what a map lists at a name
abbrev pub owned_at : {X A Y S : Type 0} → HashMap (String Y) (Vec X A) S → (name : List ℕ) → List X
owned_at names name = option_map_or (λ listed. listed.items) (get_by_text names name) []

-- among the declarations of the file with this number, that with this index (a message, an enum or a service) has
-- this name
pub record IsDeclaredOf (number : ℕ) (declarations : List Declaration) (index : ℕ) (name : List ℕ)
    (one : DeclaredAt) : Type 0 where
  pub declaration : Declaration
  pub stands : slice_get declarations index ≡ Some declaration
  pub named : declaration.full_name ≡ name
  pub aggregate : is_aggregate (OfDeclaration declaration.kind) ≡ true
  pub is : one ≡ record { file = number; index = index; kind = declaration.kind }

abbrev pub IsDeclaredIn : (number : ℕ) → File → (name : List ℕ) → DeclaredAt → Type 0
IsDeclaredIn number file name one =
    (facts : Facts) × (file.facts ≡ Some facts) × (index : ℕ) × IsDeclaredOf number facts.declarations index name one

-- a declaration of the file with this number, which is one of these
abbrev pub IsDeclaredBy : List File → (number : ℕ) → (name : List ℕ) → DeclaredAt → Type 0
IsDeclaredBy files number name one =
    (file : File) × (slice_get files number ≡ Some file) × IsDeclaredIn number file name one

-- at each name are the declarations that have it
abbrev pub AreDeclared : List File → (List ℕ → List DeclaredAt) → Type 0
AreDeclared files at = (name : List ℕ) (one : DeclaredAt) → Contains (at name) one
    ↔ ((number : ℕ) × IsDeclaredBy files number name one)

-- the name is that of the file's package, or of one around it
abbrev pub HasPrefix : List File → (number : ℕ) → (name : List ℕ) → Type 0
HasPrefix files number name =
    (file : File) × (facts : Facts) × (slice_get files number ≡ Some file) × (file.facts ≡ Some facts)
    × IsPrefix facts.package_name name

-- at each name are the files that have this package or one below it
abbrev pub ArePackaged : List File → (List ℕ → List ℕ) → Type 0
ArePackaged files at = (name : List ℕ) (number : ℕ) → Contains (at name) number ↔ HasPrefix files number name

-- the tables have the names that the files give, and no others; the files of a package are in order of their numbers
pub record AreNames (files : List File) (names : Names) : Type 0 where
  pub declared : AreDeclared files (owned_at names.declared)
  pub packaged : ArePackaged files (owned_at names.packages)
  pub in_order : (name : List ℕ) → IsNonDecreasing (owned_at names.packages name)

-- some file of these prefixes has this one
abbrev pub HasPrefixAt : List (List (List ℕ)) → (number : ℕ) → (name : List ℕ) → Type 0
HasPrefixAt prefixes number name = (its : List (List ℕ)) × (slice_get prefixes number ≡ Some its) × Contains its name

-- some of these declarations is one of the file with this number, and is admitted
abbrev pub IsDeclaring : List DeclaredAt → (NameKind → Bool) → (number : ℕ) → Type 0
IsDeclaring declared admits number =
    (one : DeclaredAt) × Contains declared one × (one.file ≡ number) × (admits (OfDeclaration one.kind) ≡ true)

-- of the files of a row, the only one of which a declaration is admitted
pub record IsAloneIn (row : List ℕ) (declared : List DeclaredAt) (admits : NameKind → Bool)
    (number : ℕ) : Type 0 where
  pub there : Contains row number
  pub declares : IsDeclaring declared admits number
  pub alone : (other : ℕ) → Contains row other → IsDeclaring declared admits other → other ≡ number

-- a declaration that is admitted, of a file of a row that isn't left out and isn't this one
pub record IsBeside (files : List File) (row : List ℕ) (admits : NameKind → Bool) (beside : Option ℕ) (one : DeclaredAt)
    : Type 0 where
  pub admitted : admits (OfDeclaration one.kind) ≡ true
  pub there : Contains row one.file
  pub present : IsPresent files one.file
  pub apart : Some one.file ≢ beside

-- such a file has one of these declarations
abbrev pub IsDeclaringBeside : List File → (row : List ℕ) → List DeclaredAt → (NameKind → Bool) → (beside : Option ℕ)
    → (number : ℕ) → Type 0
IsDeclaringBeside files row declared admits beside number =
    (one : DeclaredAt) × Contains declared one × (one.file ≡ number) × IsBeside files row admits beside one

-- two of them have one
abbrev pub AreTwoDeclaring : List File → (row : List ℕ) → List DeclaredAt → (NameKind → Bool) → Type 0
AreTwoDeclaring files row declared admits =
    (first : ℕ) × (second : ℕ) × IsDeclaringBeside files row declared admits None first
    × IsDeclaringBeside files row declared admits (Some first) second

-- all of these are of files
abbrev pub AreOfFiles : List File → List DeclaredAt → Type 0
AreOfFiles files declared = (one : DeclaredAt) → Contains declared one → one.file < length files

-- the file with this number gives the name in this role, by the tables
abbrev pub IsListed : Names → (NameKind → Bool) → (name : List ℕ) → (number : ℕ) → Type 0
IsListed names admits name number =
    IsDeclaring (owned_at names.declared name) admits number
    ⊎ ((admits OfPackage ≡ true) × Contains (owned_at names.packages name) number)

-- what the tables list of the file with this number is so of its facts
pub record AreNamesOf (number : ℕ) (facts : Facts) (names : Names) : Type 0 where
  pub declared : (name : List ℕ) (one : DeclaredAt) → Contains (owned_at names.declared name) one → one.file ≡ number
      → (declaration : Declaration) × (slice_get facts.declarations one.index ≡ Some declaration)
      × (declaration.full_name ≡ name)
  pub packaged : (name : List ℕ) → Contains (owned_at names.packages name) number → IsPrefix facts.package_name name
  pub in_order : (name : List ℕ) → IsNonDecreasing (owned_at names.packages name)
