-- The sources of the documents with some paths.
-- `gives` is what reading a file may give.
use Rattle.std.specs.Prelude.{◌≡◌, ◌⊎◌, ℕ, Bool, true, false, cond, List, [], ◌∷◌, ◌++◌, Option, None, Some}
use Rattle.std.specs.List.{All, list_any}
use Rattle.std.specs.Option.{option_and_then}
use Rattle.std.specs.Str.{bytes_eq, is_utf8}
use Rattle.scip_records.specs.declared.records.Index.{Index}
use Rattle.scip_query.specs.Sites.{Numbered, document_named}
use Rattle.scip_query.specs.Answers.{Answer}
use Rattle.scip_pages.specs.Columns.{unit_of}
use Rattle.scip_pages.specs.Paths.{is_path_below}
use Rattle.scip_pages.specs.Told.{paths_of}
use Rattle.scip_pages.specs.declared.columns.ColumnUnit.{ColumnUnit}
use Rattle.scip_pages.specs.declared.told.Source.{Source}
use Rattle.scip_site.specs.Snapshots.{path_in}

-- the source, by what the columns of the document with a path count, and by what reading its file gave: none if the
-- document doesn't say the former, or the latter is no text
abbrev pub source_with : (path : List ℕ) → Option ColumnUnit → Option (List ℕ) → Option Source
source_with path (Some unit) (Some text) =
    cond (is_utf8 text) (Some (record { path = path; unit = unit; text = text })) None
source_with path unit read = None

abbrev pub unit_named : Index → (path : List ℕ) → Option ColumnUnit
unit_named index path =
    option_and_then (λ (d : Numbered). unit_of d.document.position_encoding) (document_named index path)

-- its file is that with its path below the root; a path that doesn't stay below has none
abbrev pub IsSource : (gives : List ℕ → Option (List ℕ) → Type 0) → (root : List ℕ) → Index → (path : List ℕ)
    → (is_below : Bool) → Option Source → Type 0
IsSource gives root index path false source = source ≡ None
IsSource gives root index path true source =
    (read : Option (List ℕ)) × gives (path_in root path) read × (source ≡ source_with path (unit_named index path) read)

abbrev pub IsSourceOf : (gives : List ℕ → Option (List ℕ) → Type 0) → (root : List ℕ) → Index → (path : List ℕ)
    → Option Source → Type 0
IsSourceOf gives root index path source = IsSource gives root index path (is_path_below path) source

-- whether one of some sources has a path
abbrev pub is_there : List Source → (path : List ℕ) → Bool
is_there sources path = list_any (λ (s : Source). bytes_eq s.path path) sources

-- sources, each as it was read; and for each of some paths there is one, or there is none to be had
pub record AreSourcesOf (gives : List ℕ → Option (List ℕ) → Type 0) (root : List ℕ) (index : Index)
    (paths : List (List ℕ)) (sources : List Source) : Type 0 where
  pub each : All (λ (s : Source). IsSourceOf gives root index s.path (Some s)) sources
  pub all : All (λ path. (is_there sources path ≡ true) ⊎ IsSourceOf gives root index path None) paths

-- of the documents that an answer shows
abbrev pub AreSourcesFor : (gives : List ℕ → Option (List ℕ) → Type 0) → (root : List ℕ) → Index → (path : List ℕ)
    → Answer → List Source → Type 0
AreSourcesFor gives root index path answer = AreSourcesOf gives root index (paths_of path answer)

-- one path more
pub data IsAdded (gives : List ℕ → Option (List ℕ) → Type 0) (root : List ℕ) (index : Index) (path : List ℕ)
    (old new : List Source) : Type 0 where
  known : is_there old path ≡ true → new ≡ old → IsAdded gives root index path old new
  added : (source : Source) → IsSourceOf gives root index path (Some source) → new ≡ old ++ source ∷ []
      → IsAdded gives root index path old new
  none : IsSourceOf gives root index path None → new ≡ old → IsAdded gives root index path old new
