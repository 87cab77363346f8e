-- Which declarations have their file in their symbols, if several files may declare one name (`scip.proto`, Symbol: a
-- symbol identifies one entity; that it has the file as its first namespace is the profile's).
use Rattle.std.specs.Prelude.{◌≡◌, ◌<◌, ◌↔◌, ℕ, List, [], ◌∷◌, ◌++◌, codes, map, take, length, eqb, Contains}
use Rattle.std.specs.Prelude.{if◌then◌else◌}
use Rattle.std.specs.List.{list_any, ends_with}
use Rattle.std.specs.Str.{bytes_eq}
use Rattle.proto_decl.specs.Names.{dotted}
use Rattle.proto_decl.specs.Facts.{Facts}
use Rattle.proto_decl.specs.Laws.{component_names}
use Rattle.proto_decl.specs.declared.declaration.Declaration.{Declaration}
use Rattle.proto_visibility.specs.Files.{File, HasFacts}
use Rattle.proto_visibility.specs.Reaches.{IsReachable}
use Rattle.scip_symbol.specs.Entities.{Entity, OfDeclaration}
use Rattle.scip_symbol.specs.Package.{Package}
use Rattle.scip_model.specs.Packages.{Packages, RepeatedNames, names_at, package_of_file, path_at}

-- ---- the symbols of a file's declarations

-- the full name of the outermost declaration on the way to one, which is in no other: the first step of the path leads
-- to it
abbrev pub outermost_name : Facts → Declaration → List ℕ
outermost_name facts declaration =
    dotted (component_names facts.package_name ++ take 1 (map (λ step. step.name) declaration.path))

-- Where a file's declarations belong: the package of their symbols, the file's path, and what is repeated of it.
pub record Home : Type 0 where
  pub id : Package
  pub path : List ℕ
  pub repeated : List (List ℕ)

abbrev pub home_of_file : List File → Packages → (number : ℕ) → Home
home_of_file files ids number =
    record { id = package_of_file files ids number; path = path_at files number; repeated = names_at ids.repeated number }

-- The namespace of a file: its path. A path of a tree ends in `.proto`; another one has `./` behind it, so that no two
-- files have one namespace, and none is an identifier, as those of packages are.
abbrev pub file_namespace : (path : List ℕ) → List ℕ
file_namespace path = if ends_with eqb path (codes ".proto") then path else path ++ codes "./"

-- the namespaces before a declaration: those of its package, and before them that of its file, if the outermost
-- declaration on the way to it is repeated
abbrev pub namespaces_before : Home → Facts → Declaration → List (List ℕ)
namespaces_before home facts declaration =
    if list_any (bytes_eq (outermost_name facts declaration)) home.repeated
    then file_namespace home.path ∷ component_names facts.package_name else component_names facts.package_name

-- what has the symbol of the declaration; if nothing is repeated, it computes to the usual entity
abbrev pub declaration_in : Home → Facts → Declaration → Entity
declaration_in home facts declaration = OfDeclaration (namespaces_before home facts declaration) declaration.path

-- ---- which are repeated

-- a reachable file has an outermost declaration with this full name
pub record HasOutermost (files : List File) (number : ℕ) (full_name : List ℕ) : Type 0 where
  pub facts : Facts
  pub declaration : Declaration
  pub is_reachable : IsReachable files number
  pub known : HasFacts files number facts
  pub listed : Contains facts.declarations declaration
  pub outermost : length declaration.path ≡ 1
  pub named : declaration.full_name ≡ full_name

-- The file with this number has one, and so has an earlier file: files are in order of numbers, sources by path, then
-- included files by path.
pub record IsRepeated (files : List File) (number : ℕ) (full_name : List ℕ) : Type 0 where
  pub has : HasOutermost files number full_name
  pub earlier : ℕ
  pub before : earlier < number
  pub had : HasOutermost files earlier full_name

-- just those; if there are none, the list is empty
pub record AreRepeated (files : List File) (repeated : RepeatedNames) : Type 0 where
  pub exact : (number : ℕ) (full_name : List ℕ) → Contains (names_at repeated number) full_name
      ↔ IsRepeated files number full_name
  pub none : ((number : ℕ) (full_name : List ℕ) → IsRepeated files number full_name → ⊥) → repeated ≡ []

-- linked files, the packages of their symbols, and what is repeated among them
pub record Naming : Type 0 where
  pub files : List File
  pub ids : Packages

abbrev pub HasRepeated : Naming → Type 0
HasRepeated named = AreRepeated named.files named.ids.repeated
