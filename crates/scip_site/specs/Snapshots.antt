-- What becomes of the documents of an index whose sources are below a root: which snapshots are printed, and which
-- documents are left out.
-- `gives` is what reading a file may give.
use Rattle.std.specs.Prelude.{◌≡◌, ℕ, ◌+◌, Bool, true, false, cond, List, [], ◌∷◌, ◌++◌, map, Vec, Option, Some, None}
use Rattle.std.specs.Prelude.{Result, Ok, Err, codes}
use Rattle.std.specs.List.{flat_map}
use Rattle.std.specs.Str.{is_utf8}
use Rattle.scip_records.specs.declared.records.Index.{Index}
use Rattle.scip_records.specs.declared.records.Document.{Document}
use Rattle.source_files.specs.Roots.{path_below}
use Rattle.source_files.specs.Made.{MadeFile}
use Rattle.scip_pages.specs.Paths.{is_path_below}
use Rattle.scip_pages.specs.Snapshot.{flat_byte, snapshot_of}
use Rattle.scip_pages.specs.declared.snapshot_fault.SnapshotFault.{SnapshotFault}
use Rattle.scip_site.specs.declared.left_out.LeftOut.{LeftOut}
use Rattle.scip_site.specs.declared.left_out.LeftOut.TheVariants.{BadPath, Unreadable, NotText, NoSnapshot}
use Rattle.scip_site.specs.LeftOuts.{line_of}

-- ---- one document

-- its snapshot, or why it is left out
abbrev pub Outcome : Type 0
Outcome = Result (List ℕ) LeftOut

abbrev pub outcome_view : {A : Type 0} → Result (Vec ℕ A) LeftOut → Outcome
outcome_view (Ok text) = Ok text.items
outcome_view (Err left) = Err left

abbrev pub of_snapshot : Result (List ℕ) SnapshotFault → Outcome
of_snapshot (Ok text) = Ok text
of_snapshot (Err fault) = Err (NoSnapshot fault)

-- of the document with a number, by what reading its source gave
abbrev pub of_source : Index → ℕ → Option (List ℕ) → Outcome
of_source index number None = Err Unreadable
of_source index number (Some bytes) =
    cond (is_utf8 bytes) (of_snapshot (snapshot_of index number bytes)) (Err NotText)

-- a path below a folder; an empty name is that of the folder where the program runs
abbrev pub path_in : (folder path : List ℕ) → List ℕ
path_in [] path = path
path_in (byte ∷ folder) path = path_below (byte ∷ folder) path

-- Its source is the file with its path below the root, if the path is that of a page.
abbrev pub IsRead : (gives : List ℕ → Option (List ℕ) → Type 0) → (root : List ℕ) → Index → ℕ → (path : List ℕ)
    → (is_below : Bool) → Outcome → Type 0
IsRead gives root index number path false outcome = outcome ≡ Err BadPath
IsRead gives root index number path true outcome =
    (source : Option (List ℕ)) × gives (path_in root path) source × (outcome ≡ of_source index number source)

abbrev pub IsOutcome : (gives : List ℕ → Option (List ℕ) → Type 0) → (root : List ℕ) → Index → ℕ → (path : List ℕ)
    → Outcome → Type 0
IsOutcome gives root index number path outcome = IsRead gives root index number path (is_path_below path) outcome

-- a snapshot is printed below the document's path, which is on one line
abbrev pub printed_by : (path : List ℕ) → Outcome → List ℕ
printed_by path (Ok text) = map flat_byte path ++ codes "\n" ++ text
printed_by path (Err left) = []

-- or it goes to a file below a folder, by the document's path
abbrev pub filed_by : (folder path : List ℕ) → Outcome → List MadeFile
filed_by folder path (Ok text) = record { path = path_in folder path; bytes = text } ∷ []
filed_by folder path (Err left) = []

-- one line is said about a document that is left out
abbrev pub told_by : (path : List ℕ) → Outcome → List (List ℕ)
told_by path (Ok text) = []
told_by path (Err left) = line_of path left ∷ []

-- ---- several documents

-- a document's path, and what becomes of the document
pub record Shown : Type 0 where
  pub path : List ℕ
  pub outcome : Outcome

-- of each of some documents, whose first has a number
pub data AreShown (gives : List ℕ → Option (List ℕ) → Type 0) (root : List ℕ) (index : Index)
    : ℕ → List Document → List Shown → Type 0 where
  none : {number : ℕ} → AreShown gives root index number [] []
  next : {number : ℕ} {document : Document} {documents : List Document} {outcome : Outcome} {others : List Shown}
      → IsOutcome gives root index number document.relative_path outcome
      → AreShown gives root index (number + 1) documents others
      → AreShown gives root index number (document ∷ documents)
      (record { path = document.relative_path; outcome = outcome } ∷ others)

abbrev pub printed : List Shown → List ℕ
printed shown = flat_map (λ (s : Shown). printed_by s.path s.outcome) shown

abbrev pub filed : (folder : List ℕ) → List Shown → List MadeFile
filed folder shown = flat_map (λ (s : Shown). filed_by folder s.path s.outcome) shown

abbrev pub told : List Shown → List (List ℕ)
told shown = flat_map (λ (s : Shown). told_by s.path s.outcome) shown
