-- Which file sees which (proto3 language guide, "Importing Definitions").
use Rattle.std.specs.Prelude.{ℕ, Bool, true, List}
use Rattle.proto_visibility.specs.Files.{File, Imports}

-- from the one file public imports lead to the other, in any number
pub data LeadsTo (Imports : ℕ → Bool → ℕ → Type 0) : ℕ → ℕ → Type 0 where
  at_once : {file : ℕ} → LeadsTo Imports file file
  through : {file next last : ℕ} → Imports file true next → LeadsTo Imports next last → LeadsTo Imports file last

-- A file sees itself, what it imports, and what that leads to.
pub data SeesBy (Imports : ℕ → Bool → ℕ → Type 0) : ℕ → ℕ → Type 0 where
  itself : {file : ℕ} → SeesBy Imports file file
  import : {file next last : ℕ} {publicly : Bool} → Imports file publicly next → LeadsTo Imports next last
      → SeesBy Imports file last

abbrev pub Sees : List File → ℕ → ℕ → Type 0
Sees files = SeesBy (Imports files)
