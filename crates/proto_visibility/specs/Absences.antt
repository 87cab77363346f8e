-- Missing imports: those of files that aren't there. And reachable files without facts, which couldn't be read.
use Rattle.std.specs.Prelude.{◌≡◌, ◌<◌, ◌↔◌, ℕ, true, Some, None, List, Contains, AllPairs}
use Rattle.std.specs.List.{slice_get}
use Rattle.proto_decl.specs.Facts.{Facts}
use Rattle.proto_decl.specs.declared.imports.Imported.{Imported}
use Rattle.proto_visibility.specs.declared.files.FilePlace.{FilePlace}
use Rattle.proto_visibility.specs.Files.{File, HasFacts, IsSource, HasPath, is_public}
use Rattle.proto_visibility.specs.Reaches.{IsReachable}
use Rattle.proto_visibility.specs.Clashes.{Before}

-- An import that has to be there: any of a source, and the public ones of a reachable included file.
pub data IsNeeded (files : List File) : ℕ → Imported → Type 0 where
  of_source : {number : ℕ} {facts : Facts} {import : Imported}
      → IsSource files number → HasFacts files number facts → Contains facts.imports import
      → IsNeeded files number import
  of_included : {number : ℕ} {facts : Facts} {import : Imported}
      → IsReachable files number → HasFacts files number facts → Contains facts.imports import
      → is_public import.kind ≡ true
      → IsNeeded files number import

-- no file has the path of the import at this place, which has to be there
pub record IsMissing (files : List File) (place : FilePlace) : Type 0 where
  pub import : Imported
  pub needed : IsNeeded files place.file import
  pub stands : import.span ≡ place.span
  pub missing : HasPath files import.path → ⊥

-- the places of all such imports: each once, in order
pub record AreMissing (files : List File) (places : List FilePlace) : Type 0 where
  pub each : (place : FilePlace) → Contains places place ↔ IsMissing files place
  pub in_order : AllPairs Before places

-- the least such place
pub record Absent (files : List File) (place : FilePlace) : Type 0 where
  pub missing : IsMissing files place
  pub least : (other : FilePlace) → IsMissing files other → Before other place → ⊥

abbrev pub NoAbsent : List File → Type 0
NoAbsent files = (place : FilePlace) → IsMissing files place → ⊥

-- a file that counts has no facts
pub record IsUnreadBy (files : List File) (Counts : ℕ → Type 0) (number : ℕ) : Type 0 where
  pub file : File
  pub counts : Counts number
  pub numbered : slice_get files number ≡ Some file
  pub unread : file.facts ≡ None

-- a reachable one has none
abbrev pub IsUnread : List File → (number : ℕ) → Type 0
IsUnread files = IsUnreadBy files (IsReachable files)

-- the least such file
pub record Broken (files : List File) (number : ℕ) : Type 0 where
  pub unread : IsUnread files number
  pub least : (other : ℕ) → IsUnread files other → other < number → ⊥

abbrev pub NoneBroken : List File → Type 0
NoneBroken files = (number : ℕ) → IsUnread files number → ⊥
