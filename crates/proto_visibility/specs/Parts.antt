-- Files that are each a file of others: those of a part of a tree, and those of the whole tree.
use Rattle.std.specs.Prelude.{◌≡◌, ⊤, ℕ, false, Option, Some, None, List}
use Rattle.std.specs.List.{slice_get}
use Rattle.proto_decl.specs.Facts.{Facts}
use Rattle.proto_visibility.specs.declared.lookup.Entity.{Entity}
use Rattle.proto_visibility.specs.declared.lookup.Entity.TheVariants.{Package, Declared}
use Rattle.proto_visibility.specs.Files.{File, HaveOwnPaths, IsSource}
use Rattle.proto_visibility.specs.Sees.{Sees}
use Rattle.proto_visibility.specs.Reaches.{Reaches}
use Rattle.proto_visibility.specs.Linked.{CanBeLinked}
use Rattle.proto_visibility.specs.declared.clash.Duplicates.{Duplicates}

-- the facts, with another number of their file
abbrev pub renumbered : (number : ℕ) → Facts → Facts
renumbered number facts = record facts { number = number }

-- Facts of two files say the same: all but the number that the file has among others.
abbrev pub SayTheSame : Facts → Facts → Type 0
SayTheSame facts other = other ≡ renumbered other.number facts

-- neither file has facts, or both do, which say the same
abbrev pub AreAlike : Option Facts → Option Facts → Type 0
AreAlike None None = ⊤
AreAlike None (Some other) = ⊥
AreAlike (Some facts) None = ⊥
AreAlike (Some facts) (Some other) = SayTheSame facts other

-- The one file is the other: it has its path, and says the same. It may be included where the other is a source.
pub record IsSameFile (file other : File) : Type 0 where
  pub path : file.path ≡ other.path
  pub facts : AreAlike file.facts other.facts
  pub included : file.is_included ≡ false → other.is_included ≡ false
  pub left_out : file.is_left_out ≡ other.is_left_out
  pub links : file.links_options ≡ other.links_options

-- the file with this number is the file
pub record StandsAt (files : List File) (number : ℕ) (file : File) : Type 0 where
  pub other : File
  pub numbered : slice_get files number ≡ Some other
  pub same : IsSameFile file other

-- Each file of the part is a file of the whole, at this number. So its sources are sources there.
abbrev pub IsPart : (part whole : List File) → (at : ℕ → ℕ) → Type 0
IsPart part whole at = (number : ℕ) (file : File) → slice_get part number ≡ Some file
    → StandsAt whole (at number) file

-- a file of the part stands at this number in the whole
pub record IsOfPart (part : List File) (at : ℕ → ℕ) (there : ℕ) : Type 0 where
  pub number : ℕ
  pub file : File
  pub numbered : slice_get part number ≡ Some file
  pub same : at number ≡ there

-- the part has all files that this file of it sees in the whole
abbrev pub HasAllSeen : (part whole : List File) → (at : ℕ → ℕ) → (number : ℕ) → Type 0
HasAllSeen part whole at number = (seen : ℕ) → Sees whole (at number) seen → IsOfPart part at seen

-- each source of the part has all files there that it reaches in the whole
abbrev pub HasAllReached : (part whole : List File) → (at : ℕ → ℕ) → Type 0
HasAllReached part whole at = (source reached : ℕ) → IsSource part source → Reaches whole (at source) reached
    → IsOfPart part at reached

-- an entity of the part, in the whole: its file has another number there
abbrev pub entity_at : (at : ℕ → ℕ) → Entity → Entity
entity_at at (Package count) = Package count
entity_at at (Declared number index) = Declared (at number) index

-- The law: a part of files that can be linked can be linked, if it has all that its sources reach.
abbrev pub PartsCanBeLinked : Type 0
PartsCanBeLinked = (duplicates : Duplicates) (part whole : List File) (at : ℕ → ℕ) → HaveOwnPaths part
    → IsPart part whole at → HasAllReached part whole at → CanBeLinked duplicates whole → CanBeLinked duplicates part
