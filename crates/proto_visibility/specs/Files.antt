-- The files that are linked, by their numbers, and what they import (proto3 specification, "Import statement").
use Rattle.std.specs.Prelude.{◌≡◌, ℕ, Bool, true, false, not, ◌&&◌, Option, Some, List, Contains}
use Rattle.std.specs.List.{slice_get}
use Rattle.proto_parse.specs.tree.ImportKind.{ImportKind}
use Rattle.proto_parse.specs.tree.ImportKind.TheVariants.{Plain, Weak, Public}
use Rattle.proto_decl.specs.Facts.{Facts, AreOfSomeFile}
use Rattle.proto_decl.specs.declared.imports.Imported.{Imported}

-- A file: its path below its root, its facts unless it couldn't be read or parsed, and whether it is included: linked,
-- but not indexed. One that is left out has no part in what is linked, but those that import it see it, and the names
-- that it gives are known where it is seen. Names in its options are linked, or not.
pub record File : Type 0 where
  pub path : List ℕ
  pub facts : Option Facts
  pub is_included : Bool
  pub is_left_out : Bool
  pub links_options : Bool

-- the file with this number has these facts
pub record HasFacts (files : List File) (number : ℕ) (facts : Facts) : Type 0 where
  pub file : File
  pub numbered : slice_get files number ≡ Some file
  pub known : file.facts ≡ Some facts

-- the facts of each file are those of some text
abbrev pub HaveOrigins : List File → Type 0
HaveOrigins files = (number : ℕ) (facts : Facts) → HasFacts files number facts → AreOfSomeFile facts

-- the file with this number isn't left out
pub record IsPresent (files : List File) (number : ℕ) : Type 0 where
  pub file : File
  pub numbered : slice_get files number ≡ Some file
  pub present : file.is_left_out ≡ false

-- the file with this number is a source: it is neither included nor left out
pub record IsSource (files : List File) (number : ℕ) : Type 0 where
  pub file : File
  pub numbered : slice_get files number ≡ Some file
  pub source : file.is_included ≡ false
  pub present : file.is_left_out ≡ false

-- whether the file with this number is included
abbrev pub IsIncludedAt : List File → (number : ℕ) → Bool → Type 0
IsIncludedAt files number included =
    (file : File) × (slice_get files number ≡ Some file) × (included ≡ file.is_included)

-- whether the file with this number is a source
abbrev pub IsSourceAt : List File → (number : ℕ) → Bool → Type 0
IsSourceAt files number source =
    (file : File) × (slice_get files number ≡ Some file)
    × (source ≡ (not file.is_included && not file.is_left_out))

-- the file with this number has this path
abbrev pub HasPathAt : List File → (path : List ℕ) → (number : ℕ) → Type 0
HasPathAt files path number = (file : File) × (slice_get files number ≡ Some file) × (file.path ≡ path)

-- some file that isn't left out has this path
abbrev pub HasPath : List File → List ℕ → Type 0
HasPath files path = (number : ℕ) × HasPathAt files path number × IsPresent files number

abbrev pub is_public : ImportKind → Bool
is_public Plain = false
is_public Weak = false
is_public Public = true

-- One file imports another by its path, publicly or not. A weak import counts as a plain one (the profile's).
pub record Imports (files : List File) (importing : ℕ) (publicly : Bool) (imported : ℕ) : Type 0 where
  pub facts : Facts
  pub import : Imported
  pub file : File
  pub known : HasFacts files importing facts
  pub listed : Contains facts.imports import
  pub kind : is_public import.kind ≡ publicly
  pub numbered : slice_get files imported ≡ Some file
  pub path : file.path ≡ import.path

-- no two files have one path
abbrev pub HaveOwnPaths : List File → Type 0
HaveOwnPaths files = (i j : ℕ) (a b : File) → slice_get files i ≡ Some a → slice_get files j ≡ Some b → a.path ≡ b.path
    → i ≡ j
