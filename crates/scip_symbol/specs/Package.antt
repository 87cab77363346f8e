-- What names a package: the manager, the name and the version of its symbols.
use Rattle.std.specs.Prelude.{ℕ, ◌<◌, List, [], length, slice_index_or}
use Rattle.scip_symbol.specs.Parts.{IsPart}

pub record Package : Type 0 where
  pub manager : List ℕ
  pub name : List ℕ
  pub version : List ℕ

pub record IsPackage (p : Package) : Type 0 where
  pub manager : IsPart p.manager
  pub name : IsPart p.name
  pub version : IsPart p.version

-- the text with a number, from 0, of three
abbrev pub nth : List (List ℕ) → ℕ → List ℕ
nth parts k = slice_index_or parts k []

abbrev pub package_of : List (List ℕ) → Package
package_of parts = record { manager = nth parts 0; name = nth parts 1; version = nth parts 2 }

-- each text below a number is a manager, a name or a version
abbrev pub ArePartsBelow : List (List ℕ) → ℕ → Type 0
ArePartsBelow parts n = (k : ℕ) → k < n → IsPart (nth parts k)

-- the first text that is none
pub record IsFirstBad (parts : List (List ℕ)) (part : ℕ) : Type 0 where
  pub within : part < length parts
  pub bad : IsPart (nth parts part) → ⊥
  pub first : ArePartsBelow parts part
