-- Marks of the numbers that the full names of packages are hashed by: a name whose number has none is no package's.
use Rattle.std.specs.Prelude.{◌<◌, ◌≤◌, ℕ, Bool, List, length}
use Rattle.proto_decl.specs.Facts.{Facts}
use Rattle.proto_decl.specs.Names.{hash64, package_of}
use Rattle.proto_decl.specs.declared.uses.Component.{Component}
use Rattle.proto_visibility.specs.Files.{File, HasFacts}
use Rattle.option_link.specs.Marks.{IsMarked}

-- these are the marks that were there, and those of the package with these components and of the packages above it
pub record AddsPackages (components : List Component) (old new : List Bool) : Type 0 where
  pub kept : (other : ℕ) → IsMarked old other → IsMarked new other
  pub added : (count : ℕ) → 0 < count → count ≤ length components
      → IsMarked new (hash64 (package_of components count))

-- and those of the package of this file
pub record AddsFile (files : List File) (file : ℕ) (old new : List Bool) : Type 0 where
  pub kept : (other : ℕ) → IsMarked old other → IsMarked new other
  pub added : (facts : Facts) (count : ℕ) → HasFacts files file facts → 0 < count
      → count ≤ length facts.package_name → IsMarked new (hash64 (package_of facts.package_name count))

-- the packages of all files have marks
abbrev pub HasPackages : List File → List Bool → Type 0
HasPackages files marks = (file : ℕ) (facts : Facts) (count : ℕ) → HasFacts files file facts → 0 < count
    → count ≤ length facts.package_name → IsMarked marks (hash64 (package_of facts.package_name count))
