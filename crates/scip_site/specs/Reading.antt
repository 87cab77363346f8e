-- The sources of an index's documents, and why a document has no page.
-- `gives` is what reading a file may give.
use Rattle.std.specs.Prelude.{◌≡◌, ℕ, Bool, true, false, cond, List, [], ◌∷◌, ◌++◌, length, map, codes, Vec, Option}
use Rattle.std.specs.Prelude.{None, Some, Result, Ok, Err}
use Rattle.std.specs.List.{flat_map, slice_get}
use Rattle.std.specs.Str.{is_utf8}
use Rattle.scip_records.specs.declared.records.Document.{Document}
use Rattle.scip_records.specs.declared.records.Occurrence.{Occurrence}
use Rattle.scip_pages.specs.declared.columns.ColumnUnit.{ColumnUnit}
use Rattle.scip_pages.specs.Columns.{unit_of}
use Rattle.scip_pages.specs.Paths.{is_path_below}
use Rattle.scip_pages.specs.Snapshot.{lines_of, misfit}
use Rattle.scip_site.specs.declared.show_fault.ShowFault.{ShowFault}
use Rattle.scip_site.specs.declared.show_fault.ShowFault.TheVariants.{Write, Memory}
use Rattle.scip_site.specs.LeftOuts.{line_with}
use Rattle.scip_site.specs.Snapshots.{path_in}
use Rattle.streams.specs.Writers.{Writer, AreTold, IsUntouched}
use Rattle.scip_site.specs.declared.no_page.NoPage.{NoPage}
use Rattle.scip_site.specs.declared.no_page.NoPage.TheVariants.{BadPath, Repeated, Unreadable, NotText, NoUnit, Misfit}
use Rattle.scip_site.specs.Repeats.{is_repeated}
use Rattle.scip_pages.specs.Site.{Sources}

-- ---- one document

-- its source, or why it has no page
abbrev pub Outcome : Type 0
Outcome = Result (List ℕ) NoPage

abbrev pub fit_or_misfit : List ℕ → Option ℕ → Outcome
fit_or_misfit source None = Ok source
fit_or_misfit source (Some number) = Err Misfit

abbrev pub in_unit : Option ColumnUnit → List Occurrence → List ℕ → Outcome
in_unit None occurrences source = Err NoUnit
in_unit (Some unit) occurrences source = fit_or_misfit source (misfit unit (lines_of source) occurrences)

-- by what reading its source gave
abbrev pub of_source : Document → Option (List ℕ) → Outcome
of_source d None = Err Unreadable
of_source d (Some bytes) =
    cond (is_utf8 bytes) (in_unit (unit_of d.position_encoding) d.occurrences bytes) (Err NotText)

-- Its source is the file with its path below the root. If its path isn't that of a page, or is that of a document
-- before it, nothing is read.
abbrev pub IsRead : (gives : List ℕ → Option (List ℕ) → Type 0) → (root : List ℕ) → Document
    → (is_below repeated : Bool) → Outcome → Type 0
IsRead gives root d false repeated outcome = outcome ≡ Err BadPath
IsRead gives root d true true outcome = outcome ≡ Err Repeated
IsRead gives root d true false outcome =
    (source : Option (List ℕ)) × gives (path_in root d.relative_path) source × (outcome ≡ of_source d source)

abbrev pub is_below : Document → Bool
is_below d = is_path_below d.relative_path

-- of the document with a number
abbrev pub IsOutcome : (gives : List ℕ → Option (List ℕ) → Type 0) → (root : List ℕ) → List Document → ℕ → Document
    → Outcome → Type 0
IsOutcome gives root documents number d outcome =
    IsRead gives root d (is_below d) (is_repeated documents number) outcome

-- ---- several documents

-- a document, and what becomes of it
pub record Read : Type 0 where
  pub document : Document
  pub outcome : Outcome

-- the first of some documents, in their order
pub data AreRead (gives : List ℕ → Option (List ℕ) → Type 0) (root : List ℕ) (documents : List Document)
    : List Read → Type 0 where
  none : AreRead gives root documents []
  next : (before : List Read) (d : Document) (outcome : Outcome)
      → AreRead gives root documents before
      → slice_get documents (length before) ≡ Some d
      → IsOutcome gives root documents (length before) d outcome
      → AreRead gives root documents (before ++ record { document = d; outcome = outcome } ∷ [])

abbrev pub source_or_none : Outcome → Option (List ℕ)
source_or_none (Ok source) = Some source
source_or_none (Err why) = None

abbrev pub sources_of : List Read → Sources
sources_of reads = map (λ (r : Read). source_or_none r.outcome) reads

-- ---- what is said

-- (The names are this project's own.)
abbrev pub name_of : NoPage → List ℕ
name_of BadPath = codes "BadPath"
name_of Repeated = codes "Repeated"
name_of Unreadable = codes "Unreadable"
name_of NotText = codes "NotText"
name_of NoUnit = codes "NoUnit"
name_of Misfit = codes "Misfit"

-- of a document that has no page one line
abbrev pub told_by : (path : List ℕ) → Outcome → List (List ℕ)
told_by path (Ok source) = []
told_by path (Err why) = line_with path (name_of why) ∷ []

abbrev pub told : List Read → List (List ℕ)
told reads = flat_map (λ (r : Read). told_by r.document.relative_path r.outcome) reads

-- ---- reading

-- A source is kept, or none, and then it is told why; or memory ran out before.
pub record IsSourceKept {M : Type 0} (path : List ℕ) (outcome : Outcome) (old new : Sources)
    (messages : Writer M) : Type 0
  where
    pub kept : new ≡ old ++ source_or_none outcome ∷ []
    pub told_is : AreTold messages (told_by path outcome)

abbrev pub Keeps : {M : Type 0} → (path : List ℕ) → Outcome → (old new : Sources) → Writer M
    → Result (Unit {0}) ShowFault → Type 0
Keeps path outcome old new messages (Ok done) = IsSourceKept path outcome old new messages
Keeps path outcome old new messages (Err Memory) = IsUntouched messages
Keeps path outcome old new messages (Err Write) = ⊥

-- so with what becomes of a document
pub record IsReadBy {M : Type 0} (gives : List ℕ → Option (List ℕ) → Type 0) (root : List ℕ) (repeated : Bool)
    (d : Document) (old new : Sources) (messages : Writer M) : Type 0 where
  pub outcome : Outcome
  pub is : IsRead gives root d (is_below d) repeated outcome
  pub kept : IsSourceKept d.relative_path outcome old new messages

abbrev pub ReadsOne : {M : Type 0} → (gives : List ℕ → Option (List ℕ) → Type 0) → (root : List ℕ) → (repeated : Bool)
    → Document → (old new : Sources) → Writer M → Result (Unit {0}) ShowFault → Type 0
ReadsOne gives root repeated d old new messages (Ok done) = IsReadBy gives root repeated d old new messages
ReadsOne gives root repeated d old new messages (Err Memory) = IsUntouched messages
ReadsOne gives root repeated d old new messages (Err Write) = ⊥

-- The first of some documents are read, and it is told which of them have no page;
pub record AreReadBy {M : Type 0} (gives : List ℕ → Option (List ℕ) → Type 0) (root : List ℕ)
    (documents : List Document) (messages : Writer M) : Type 0 where
  pub reads : List Read
  pub are : AreRead gives root documents reads
  pub told_are : AreTold messages (told reads)

-- these are so many, and their sources are kept;
pub record AreKept {M : Type 0} (gives : List ℕ → Option (List ℕ) → Type 0) (root : List ℕ)
    (documents : List Document) (many : ℕ) (sources : Sources) (messages : Writer M) : Type 0 where
  pub by : AreReadBy gives root documents messages
  pub many_are : length by.reads ≡ many
  pub sources_are : sources ≡ sources_of by.reads

-- all are, or memory ran out before.
abbrev pub AllAreKept : {M : Type 0} → (gives : List ℕ → Option (List ℕ) → Type 0) → (root : List ℕ) → List Document
    → Sources → Writer M → Type 0
AllAreKept gives root documents sources messages = AreKept gives root documents (length documents) sources messages

abbrev pub ReadsAll : {M : Type 0} → (gives : List ℕ → Option (List ℕ) → Type 0) → (root : List ℕ) → List Document
    → Sources → Writer M → Result (Unit {0}) ShowFault → Type 0
ReadsAll gives root documents sources messages (Ok done) = AllAreKept gives root documents sources messages
ReadsAll gives root documents sources messages (Err Memory) = AreReadBy gives root documents messages
ReadsAll gives root documents sources messages (Err Write) = ⊥

abbrev pub listed_in : {A : Type 0} → Result (Vec (Option (List ℕ)) A) ShowFault → Result Sources ShowFault
listed_in (Ok sources) = Ok sources.items
listed_in (Err fault) = Err fault

abbrev pub ReadsInto : {M : Type 0} → (gives : List ℕ → Option (List ℕ) → Type 0) → (root : List ℕ) → List Document
    → Writer M → Result Sources ShowFault → Type 0
ReadsInto gives root documents messages (Ok sources) = AllAreKept gives root documents sources messages
ReadsInto gives root documents messages (Err Memory) = AreReadBy gives root documents messages
ReadsInto gives root documents messages (Err Write) = ⊥
