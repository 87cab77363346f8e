-- The package that the symbols of a file belong to (`scip.proto`, Symbol and Package): that of the run, or that of
-- the included root that the file is below, if this has one of its own. A proto package is no file's own: it belongs
-- to the run.
use Rattle.std.specs.Prelude.{ℕ, Option, Some, None, List, [], ◌∷◌, ◌++◌, if◌then◌else◌, All}
use Rattle.std.specs.List.{slice_get, list_any}
use Rattle.std.specs.Str.{bytes_eq}
use Rattle.scip_symbol.specs.Package.{Package, IsPackage}
use Rattle.proto_visibility.specs.Files.{File}
use Rattle.proto_visibility.specs.declared.lookup.Entity.{Entity}
use Rattle.proto_visibility.specs.declared.lookup.Entity.TheVariants as link

-- an included root with a package of its own, and the paths of its files
pub record Root : Type 0 where
  pub id : Package
  pub paths : List (List ℕ)

-- For each file, by its number, the full names of those of its outermost declarations whose symbols have the file before
-- the package; files behind the end have none.
abbrev pub RepeatedNames : Type 0
RepeatedNames = List (List (List ℕ))

-- the package of the run, and the included roots that have one of their own; and what is repeated
pub record Packages : Type 0 where
  pub run : Package
  pub roots : List Root
  pub repeated : RepeatedNames

-- each file has this package, and nothing is repeated
abbrev pub all_in : Package → Packages
all_in id = record { run = id; roots = []; repeated = [] }

-- the same packages, where this is repeated
abbrev pub naming : Packages → RepeatedNames → Packages
naming ids repeated = record { run = ids.run; roots = ids.roots; repeated = repeated }

-- what is repeated of the file with a number
abbrev pub names_if_there : Option (List (List ℕ)) → List (List ℕ)
names_if_there None = []
names_if_there (Some names) = names

abbrev pub names_at : RepeatedNames → (number : ℕ) → List (List ℕ)
names_at repeated number = names_if_there (slice_get repeated number)

-- the path of the file with a number; none has the empty one
abbrev pub path_if_there : Option File → List ℕ
path_if_there None = []
path_if_there (Some file) = file.path

abbrev pub path_at : List File → (number : ℕ) → List ℕ
path_at files number = path_if_there (slice_get files number)

-- the paths with one more, which is there once
abbrev pub with_path : List (List ℕ) → (path : List ℕ) → List (List ℕ)
with_path paths path = if list_any (bytes_eq path) paths then paths else paths ++ path ∷ []

-- the package of the first root that has a file with this path; if none has, the run's
abbrev pub package_among : (run : Package) → (path : List ℕ) → List Root → Package
package_among run path [] = run
package_among run path (root ∷ roots) =
    if list_any (bytes_eq path) root.paths then root.id else package_among run path roots

-- the package of the file with this path
unfoldable pub package_of_path : Packages → (path : List ℕ) → Package
package_of_path ids path = package_among ids.run path ids.roots

-- the package of a file, by its number
abbrev pub package_if_there : Packages → Option File → Package
package_if_there ids None = ids.run
package_if_there ids (Some file) = package_of_path ids file.path

abbrev pub package_of_file : List File → Packages → (number : ℕ) → Package
package_of_file files ids number = package_if_there ids (slice_get files number)

-- the package of what a component of a use names: of a declaration that of its file
abbrev pub package_of_part : List File → Packages → Entity → Package
package_of_part files ids (link.Package count) = ids.run
package_of_part files ids (link.Declared number index) = package_of_file files ids number

-- each is made of good parts
pub record ArePackages (ids : Packages) : Type 0 where
  pub run : IsPackage ids.run
  pub roots : All (λ root. IsPackage root.id) ids.roots
