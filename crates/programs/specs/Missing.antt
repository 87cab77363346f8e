-- The line that groups what is missing of a tree: the imports that lead nowhere, by their paths. (The text is this
-- project's own.)
use Rattle.std.specs.Prelude.{◌≡◌, ℕ, Bool, true, false, List, [], ◌∷◌, ◌++◌, Option, Some, None, codes, length, take}
use Rattle.std.specs.Prelude.{if◌then◌else◌, nat_eq, nat_lt}
use Rattle.std.specs.Fmt.{decimal}
use Rattle.std.specs.List.{count_by, flat_map}
use Rattle.std.specs.Str.{bytes_eq}
use Rattle.std.specs.Str.Lossy.{utf8_lossy}
use Rattle.diagnostics.specs.Literals.{joined}
use Rattle.fault_reports.specs.Findings.{Found}
use Rattle.source_files.specs.Walks.{AreOnce}
use Rattle.source_tree.specs.Files.{TreeFile}
use Rattle.scip_build.specs.declared.omission.Omission.{Omission}
use Rattle.protoscip.specs.Findings.{all_findings}

-- ---- what is missing

-- what is said of an import of a file that is left out: it isn't missing
abbrev pub left_out_sentence : List ℕ
left_out_sentence = codes "the file with this path is left out"

-- the path that the literals of an import spell together, if it is one
abbrev pub path_in : Option (List ℕ) → List (List ℕ)
path_in None = []
path_in (Some literals) = utf8_lossy (joined literals) ∷ []

-- the path that is missing by a finding
abbrev pub missing_in : Found → List (List ℕ)
missing_in found = if bytes_eq found.message left_out_sentence then [] else path_in found.imported

-- the paths that are missing by what an index of a tree lacks, one for each import
abbrev pub missing_paths : List TreeFile → List Omission → List (List ℕ)
missing_paths tree told = flat_map missing_in (all_findings tree [] told)

-- ---- the line

-- at most so many paths are named
abbrev pub most_named : ℕ
most_named = 8

-- `, N of PATH`
abbrev pub group_text : (paths : List (List ℕ)) → (path : List ℕ) → List ℕ
group_text paths path =
    codes ", " ++ decimal (count_by (λ one. bytes_eq one path) paths) ++ codes " of " ++ path

-- if there are more
abbrev pub others_text : (each : List (List ℕ)) → List ℕ
others_text each = if nat_lt most_named (length each) then codes " and others" else []

-- `protoscip: N imports lead nowhere`
abbrev pub many_front : ℕ → List ℕ
many_front count = codes "protoscip: " ++ decimal count ++ codes " imports lead nowhere"

-- `protoscip: 1 import of PATH leads`, or `protoscip: N imports of PATH lead`
abbrev pub one_front : (count : ℕ) → (path : List ℕ) → List ℕ
one_front count path =
    if nat_eq count 1 then codes "protoscip: 1 import of " ++ path ++ codes " leads"
    else codes "protoscip: " ++ decimal count ++ codes " imports of " ++ path ++ codes " lead"

-- `protoscip: N imports of PATH lead nowhere: --include the folder that has it`, if it is one path
abbrev pub one_line : (paths : List (List ℕ)) → (path : List ℕ) → List ℕ
one_line paths path = one_front (length paths) path ++ codes " nowhere: --include the folder that has it"

-- `protoscip: N imports lead nowhere, N of PATH, N of PATH: --include the folders that have them`, if it is several
abbrev pub many_line : (paths each : List (List ℕ)) → List ℕ
many_line paths each =
    ((many_front (length paths) ++ flat_map (group_text paths) (take most_named each)) ++ others_text each)
    ++ codes ": --include the folders that have them"

-- by the paths, and these once each; none if nothing is missing
abbrev pub missing_line : (paths each : List (List ℕ)) → Option (List ℕ)
missing_line paths [] = None
missing_line paths (path ∷ []) = Some (one_line paths path)
missing_line paths (path ∷ (other ∷ others)) = Some (many_line paths (path ∷ (other ∷ others)))

-- of a tree whose index lacks this
abbrev pub IsMissingLine : List TreeFile → List Omission → Option (List ℕ) → Type 0
IsMissingLine tree told line =
    (each : List (List ℕ)) × AreOnce (missing_paths tree told) each
    × (line ≡ missing_line (missing_paths tree told) each)

-- ---- where it is said

-- A text, and behind a line end the line of what is missing, if that is wanted and something is missing.
pub data IsWithMissing (wanted : Bool) (tree : List TreeFile) (told : List Omission) (text : List ℕ)
    : (all : List ℕ) → Type 0 where
  unwanted : wanted ≡ false → IsWithMissing wanted tree told text text
  nothing : wanted ≡ true → IsMissingLine tree told None → IsWithMissing wanted tree told text text
  with_line : {line : List ℕ} → wanted ≡ true → IsMissingLine tree told (Some line)
      → IsWithMissing wanted tree told text (text ++ codes "\n" ++ line)
