-- What a use of a file names in a part of files, and in the whole.
use Rattle.std.specs.Prelude.{◌≡◌, ℕ, Some, List, map}
use Rattle.std.specs.List.{slice_get}
use Rattle.proto_decl.specs.declared.uses.Use.{Use}
use Rattle.proto_visibility.specs.Files.{File, HaveOwnPaths}
use Rattle.proto_visibility.specs.Parts.{HasAllSeen, IsPart, entity_at}
use Rattle.proto_link.specs.declared.target.Target.{Target}
use Rattle.proto_link.specs.Targets.{IsTarget}

-- what a use names in the part, in the whole: files have other numbers there
abbrev pub target_at : (at : ℕ → ℕ) → Target → Target
target_at at target = record { name = target.name; parts = map (entity_at at) target.parts }

-- in the part the use names this, by the numbers that files have in the whole
pub record NamesTheSame (part : List File) (at : ℕ → ℕ) (number : ℕ) (type_use : Use) (target : Target) : Type 0 where
  pub own : Target
  pub is_target : IsTarget part number type_use own
  pub same : target_at at own ≡ target

-- the use of this file of the part names in the part just what it names in the whole
pub record ResolvesAlike (part whole : List File) (at : ℕ → ℕ) (number : ℕ) (type_use : Use) : Type 0 where
  pub never_invented : (target : Target) → IsTarget part number type_use target
      → IsTarget whole (at number) type_use (target_at at target)
  pub never_lost : (target : Target) → IsTarget whole (at number) type_use target
      → NamesTheSame part at number type_use target

-- The law: so does each use of a file of which all that it sees is of the part.
abbrev pub PartsResolveAlike : Type 0
PartsResolveAlike = (part whole : List File) (at : ℕ → ℕ) → HaveOwnPaths part → IsPart part whole at
    → (number : ℕ) (file : File) → slice_get part number ≡ Some file → HasAllSeen part whole at number
    → (type_use : Use) → ResolvesAlike part whole at number type_use
