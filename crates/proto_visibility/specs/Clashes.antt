-- Places in the files, the items that are there (declarations and the components of package statements), and the
-- first clash of their names: all reachable files are one namespace, or each file is one (the profile's).
use Rattle.std.specs.Prelude.{◌≡◌, ◌<◌, ◌⊎◌, ⊤, ℕ, ◌+◌, Bool, true, false, Some, List, Contains, ◌||◌}
use Rattle.std.specs.List.{slice_get}
use Rattle.proto_decl.specs.Names.{package_of}
use Rattle.proto_decl.specs.Facts.{Facts}
use Rattle.proto_decl.specs.declared.uses.Component.{Component}
use Rattle.proto_decl.specs.declared.declaration.Declaration.{Declaration}
use Rattle.proto_visibility.specs.declared.files.FilePlace.{FilePlace}
use Rattle.proto_visibility.specs.declared.clash.Duplicates.{Duplicates}
use Rattle.proto_visibility.specs.declared.clash.Duplicates.TheVariants.{Refuse, Keep}
use Rattle.proto_visibility.specs.Files.{File, HasFacts}
use Rattle.proto_visibility.specs.Reaches.{IsReachable}

-- ---- items

-- the one place is in an earlier file, or in the same one and starts earlier
abbrev pub BeforeBy : (Earlier : ℕ → ℕ → Type 0) → FilePlace → FilePlace → Type 0
BeforeBy Earlier a b = Earlier a.file b.file ⊎ ((a.file ≡ b.file) × (a.span.start < b.span.start))

abbrev pub Before : FilePlace → FilePlace → Type 0
Before = BeforeBy (λ number other. number < other)

pub record Item : Type 0 where
  pub place : FilePlace
  pub full_name : List ℕ
  pub is_declaration : Bool

-- Each declaration of a file that counts, at its name; and each component of its package statement, which names the
-- package of the components up to it.
pub data IsItemBy (files : List File) (Counts : ℕ → Type 0) : Item → Type 0 where
  declared : {number : ℕ} {facts : Facts} {declaration : Declaration}
      → Counts number → HasFacts files number facts → Contains facts.declarations declaration
      → IsItemBy files Counts (record {
        place = record { file = number; span = declaration.name };
        full_name = declaration.full_name;
        is_declaration = true;
      })
  packaged : {number : ℕ} {facts : Facts} {component : Component} (index : ℕ)
      → Counts number → HasFacts files number facts → slice_get facts.package_name index ≡ Some component
      → IsItemBy files Counts (record {
        place = record { file = number; span = component.span };
        full_name = package_of facts.package_name (index + 1);
        is_declaration = false;
      })

-- of the reachable files
abbrev pub IsItem : List File → Item → Type 0
IsItem files = IsItemBy files (IsReachable files)

-- of one file
abbrev pub IsOwnItem : List File → (number : ℕ) → Item → Type 0
IsOwnItem files number = IsItemBy files (λ other. other ≡ number)

-- ---- clashes

-- two items in this order, of which at least one is a declaration, have one full name
pub record Excludes (Before : FilePlace → FilePlace → Type 0) (IsItem : Item → Type 0) (first second : Item)
    : Type 0 where
  pub first_is : IsItem first
  pub second_is : IsItem second
  pub ordered : Before first.place second.place
  pub one_name : first.full_name ≡ second.full_name
  pub declares : (first.is_declaration || second.is_declaration) ≡ true

-- Among the pairs of items that exclude one another, the places of that with the least second place, and then the
-- least first.
pub record ClashBy (Before : FilePlace → FilePlace → Type 0) (IsItem : Item → Type 0) (first second : FilePlace)
    : Type 0 where
  pub earlier : Item
  pub later : Item
  pub exclude : Excludes Before IsItem earlier later
  pub first_is : earlier.place ≡ first
  pub second_is : later.place ≡ second
  pub least_second : (a b : Item) → Excludes Before IsItem a b → Before b.place second → ⊥
  pub least_first : (a b : Item) → Excludes Before IsItem a b → b.place ≡ second → Before a.place first → ⊥

abbrev pub NoClashBy : (FilePlace → FilePlace → Type 0) → (Item → Type 0) → Type 0
NoClashBy Before IsItem = (a b : Item) → Excludes Before IsItem a b → ⊥

-- the first clash of two items of one file: of those that are reachable, the first that has one
pub record OwnClash (files : List File) (first second : FilePlace) : Type 0 where
  pub number : ℕ
  pub is_reachable : IsReachable files number
  pub clash : ClashBy Before (IsOwnItem files number) first second
  pub least : (other : ℕ) → IsReachable files other → other < number → NoClashBy Before (IsOwnItem files other)

-- over the items of the reachable files, which are one namespace, or each of which is one
abbrev pub Clash : Duplicates → List File → (first second : FilePlace) → Type 0
Clash Refuse files = ClashBy Before (IsItem files)
Clash Keep files = OwnClash files

abbrev pub NoClash : Duplicates → List File → Type 0
NoClash Refuse files = NoClashBy Before (IsItem files)
NoClash Keep files = (number : ℕ) → IsReachable files number → NoClashBy Before (IsOwnItem files number)

-- whether files with these numbers are of one namespace
abbrev pub ShareNames : Duplicates → (number other : ℕ) → Type 0
ShareNames Refuse number other = ⊤
ShareNames Keep number other = number ≡ other
