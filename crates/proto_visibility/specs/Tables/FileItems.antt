-- The items of one file.
use Rattle.std.specs.Prelude.{◌≡◌, ◌⊎◌, ◌↔◌, ℕ, ◌+◌, ◌<◌, true, false, Option, Some, None, List, [], ◌++◌, length, map}
use Rattle.std.specs.Prelude.{Contains}
use Rattle.std.specs.List.{slice_get}
use Rattle.proto_decl.specs.Names.{package_of}
use Rattle.proto_decl.specs.Facts.{Facts}
use Rattle.proto_decl.specs.declared.uses.Component.{Component}
use Rattle.proto_decl.specs.declared.declaration.Declaration.{Declaration}
use Rattle.proto_visibility.specs.Files.{File}
use Rattle.proto_visibility.specs.Clashes.{Item}

-- for each component the name up to it
pub record ArePrefixes (components : List Component) (prefixes : List (List ℕ)) : Type 0 where
  pub one_each : length prefixes ≡ length components
  pub each : (index : ℕ) (prefix : List ℕ) → slice_get prefixes index ≡ Some prefix
      → prefix ≡ package_of components (index + 1)

abbrev pub declared_item : (number : ℕ) → Declaration → Item
declared_item number declaration =
    record {
      place = record { file = number; span = declaration.name };
      full_name = declaration.full_name;
      is_declaration = true;
    }

abbrev pub packaged_item : (number : ℕ) → List Component → (index : ℕ) → Component → Item
packaged_item number components index component =
    record {
      place = record { file = number; span = component.span };
      full_name = package_of components (index + 1);
      is_declaration = false;
    }

-- the item of a component of the package's name, one of the first so many
abbrev pub IsPackaged : (number : ℕ) → List Component → (count : ℕ) → Item → Type 0
IsPackaged number components count item =
    (index : ℕ) × (component : Component) × (index < count) × (slice_get components index ≡ Some component)
    × (item ≡ packaged_item number components index component)

-- a declaration or a component of the package's name of a file with this number
abbrev pub IsItemOf : (number : ℕ) → Facts → Item → Type 0
IsItemOf number facts item =
    Contains (map (declared_item number) facts.declarations) item
    ⊎ IsPackaged number facts.package_name (length facts.package_name) item

-- where items start
abbrev pub starts_of : List Item → List ℕ
starts_of items = map (λ item. item.place.span.start) items

-- all items are of one file
abbrev pub AreOfFile : ℕ → List Item → Type 0
AreOfFile number items = (index : ℕ) (item : Item) → slice_get items index ≡ Some item → item.place.file ≡ number

-- the items with those of the package's components after them
pub record AreWithPackage (number : ℕ) (components : List Component) (old new : List Item) : Type 0 where
  pub starts : starts_of new ≡ starts_of old ++ map (λ component. component.span.start) components
  pub of_file : AreOfFile number old → AreOfFile number new
  pub each : (item : Item) → Contains new item
      ↔ (Contains old item ⊎ IsPackaged number components (length components) item)

-- the components of a file's package name; none of a file without facts
abbrev pub package_name_in : Option Facts → List Component
package_name_in None = []
package_name_in (Some facts) = facts.package_name

abbrev pub package_name_of : File → List Component
package_name_of file = package_name_in file.facts

-- for each file the prefixes of its package's name
pub record AreAllPrefixes (files : List File) (prefixes : List (List (List ℕ))) : Type 0 where
  pub one_each : length prefixes ≡ length files
  pub each : (number : ℕ) (file : File) (its : List (List ℕ)) → slice_get files number ≡ Some file
      → slice_get prefixes number ≡ Some its → ArePrefixes (package_name_of file) its

-- an item of a file with this number, which has facts
abbrev pub IsItemIn : (number : ℕ) → File → Item → Type 0
IsItemIn number file item = (facts : Facts) × (file.facts ≡ Some facts) × IsItemOf number facts item
