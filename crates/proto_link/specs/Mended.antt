-- What a use names if files without facts are mended.
use Rattle.std.specs.Prelude.{◌≡◌, ℕ, Some, None, List, ◌∷◌, length}
use Rattle.std.specs.List.{slice_get}
use Rattle.proto_decl.specs.Names.{qualified, IsAround}
use Rattle.proto_decl.specs.Facts.{Facts}
use Rattle.proto_decl.specs.declared.uses.Use.{Use}
use Rattle.proto_visibility.specs.Files.{File}
use Rattle.proto_visibility.specs.Knows.{NameKind, Knows, SeesGiving}
use Rattle.proto_link.specs.declared.target.Target.{Target}
use Rattle.proto_link.specs.Resolves.{words_of, wanted}
use Rattle.proto_link.specs.Targets.{IsTarget}

-- The one scope is the other, or around it.
pub data IsAroundOrSame : (scope outer : List ℕ) → Type 0 where
  same : {scope : List ℕ} → IsAroundOrSame scope scope
  farther : {scope next outer : List ℕ} → IsAround scope next → IsAroundOrSame next outer → IsAroundOrSame scope outer

-- ---- mended files

-- The file is the same, or it had no facts and has some.
pub data IsMended (file : File) : File → Type 0 where
  unchanged : IsMended file file
  read : (facts : Facts) → file.facts ≡ None → IsMended file (record {
    path = file.path;
    facts = Some facts;
    is_included = file.is_included;
    is_left_out = file.is_left_out;
    links_options = file.links_options;
  })

pub record AreMended (files mended : List File) : Type 0 where
  pub one_each : length mended ≡ length files
  pub each : (number : ℕ) (file other : File) → slice_get files number ≡ Some file
      → slice_get mended number ≡ Some other → IsMended file other

-- A name that matters for what a use names: this full name, which it is, and its first word in each of its scopes.
pub data Matters (type_use : Use) (name : List ℕ) : List ℕ → Type 0 where
  whole_name : Matters type_use name name
  first_word : {word scope : List ℕ} {others : List (List ℕ)} → words_of type_use ≡ word ∷ others
      → IsAroundOrSame type_use.scope scope → Matters type_use name (qualified scope word)

-- By the names that matter a file knows nothing that it didn't know before files were mended, and no other file gives
-- the full name.
pub record NothingMatters (files mended : List File) (file : ℕ) (type_use : Use) (name : List ℕ) : Type 0 where
  pub known : (text : List ℕ) (kind : NameKind) → Matters type_use name text → Knows mended file text kind
      → Knows files file text kind
  pub given : (seen : ℕ) → SeesGiving mended file (wanted type_use.is_extended) name seen
      → SeesGiving files file (wanted type_use.is_extended) name seen

-- Then what it names is what it named.
abbrev pub MendedResolvesAlike : Type 0
MendedResolvesAlike = (files mended : List File) → AreMended files mended → (file : ℕ) (type_use : Use)
    (target : Target) → IsTarget files file type_use target → NothingMatters files mended file type_use target.name
    → IsTarget mended file type_use target
