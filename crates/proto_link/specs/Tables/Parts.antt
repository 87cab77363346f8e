-- What the last components of a full name name.
use Rattle.std.specs.Prelude.{◌≡◌, ◌+◌, ◌-◌, ◌∷◌, ◌++◌, ℕ, zero, suc, Some, List, length}
use Rattle.std.specs.List.{slice_get}
use Rattle.proto_lex.specs.Ascii as ascii
use Rattle.proto_decl.specs.Names.{components_of, prefix_of}
use Rattle.proto_decl.specs.Facts.{Facts}
use Rattle.proto_visibility.specs.declared.lookup.Entity.{Entity}
use Rattle.proto_visibility.specs.Files.{File, HasFacts}
use Rattle.proto_visibility.specs.Knows.{IsEntityOf}

-- each of the last so many components of the name names the entity of the name up to it
pub record AreEntitiesOf (number : ℕ) (facts : Facts) (name : List ℕ) (count : ℕ) (parts : List Entity) : Type 0 where
  pub one_each : length parts ≡ count
  pub each : (j : ℕ) (part : Entity) → slice_get parts j ≡ Some part
      → IsEntityOf number facts (prefix_of name (length (components_of name) - count + j + 1))
      (length (components_of name) - count + j + 1) part

-- the same of the facts of a file
pub record AreEntitiesAt (files : List File) (number : ℕ) (name : List ℕ) (count : ℕ) (parts : List Entity)
    : Type 0 where
  pub facts : Facts
  pub known : HasFacts files number facts
  pub are : AreEntitiesOf number facts name count parts

-- so many components and one more
abbrev pub longer : (prefix : List ℕ) (count : ℕ) (component : List ℕ) → List ℕ
longer prefix zero component = prefix ++ component
longer prefix (suc count) component = prefix ++ ascii.dot ∷ component
