-- The files that all pages of an index are, and how they are made.
-- `gives` is what reading a file may give.
use Rattle.std.specs.Prelude.{◌≡◌, ◌⊎◌, ℕ, Bool, true, false, not, List, [], ◌∷◌, ◌++◌, cond, codes, length, map}
use Rattle.std.specs.Prelude.{Option, None, Some, Result, Ok, Err}
use Rattle.std.specs.List.{flat_map, list_any, slice_get}
use Rattle.std.specs.Option.{is_some, unwrap_or}
use Rattle.scip_records.specs.declared.records.Index.{Index}
use Rattle.scip_records.specs.declared.records.Document.{Document}
use Rattle.scip_query.specs.Tables.{numbers, path_listed, IsByPath}
use Rattle.source_files.specs.Made.{MadeFile, MakesAll, StopsBehind}
use Rattle.source_files.specs.Makers.{Maker}
use Rattle.streams.specs.Writers.{Writer}
use Rattle.scip_pages.specs.Snapshot.{lines_of}
use Rattle.scip_site.specs.declared.show_fault.ShowFault.{ShowFault}
use Rattle.scip_site.specs.declared.show_fault.ShowFault.TheVariants.{Write, Memory}
use Rattle.scip_site.specs.Snapshots.{path_in}
use Rattle.scip_site.specs.declared.styles.TheConstants.{STYLE, SEARCH}
use Rattle.scip_pages.specs.Ids.{unit_in}
use Rattle.scip_pages.specs.Site.{Sources, has_page, page_path}
use Rattle.scip_pages.specs.Page.{firsts_of, page_of}
use Rattle.scip_site.specs.Reading.{AreReadBy, AllAreKept}
use Rattle.scip_site.specs.Script.{listing_text}
use Rattle.scip_site.specs.Tree.{first_page}
use Rattle.scip_site.specs.declared.site_fault.SiteFault.{SiteFault}
use Rattle.scip_site.specs.declared.site_fault.SiteFault.TheVariants.{Show, NothingThere}

-- ---- files

-- the source of the document with a number, if the document has a page
abbrev pub source_at : Sources → ℕ → Option (List ℕ)
source_at sources number = unwrap_or (slice_get sources number) None

-- its page
abbrev pub page_or_none : Index → Sources → ℕ → Option Document → Option (List ℕ) → Option (List ℕ)
page_or_none index sources number (Some d) (Some source) =
    Some (page_of index sources number d (unit_in d) (lines_of source))
page_or_none index sources number (Some d) None = None
page_or_none index sources number None source = None

abbrev pub page_at : Index → Sources → ℕ → Option (List ℕ)
page_at index sources number =
    page_or_none index sources number (slice_get index.documents number) (source_at sources number)

-- and what the list of symbols has of it
abbrev pub listing_or_none : Index → Sources → ℕ → Option Document → Option (List ℕ) → List ℕ
listing_or_none index sources number (Some d) (Some source) =
    listing_text index (unit_in d) (lines_of source) d.relative_path (firsts_of index sources number d)
listing_or_none index sources number (Some d) None = []
listing_or_none index sources number None source = []

abbrev pub listing_at : Index → Sources → ℕ → List ℕ
listing_at index sources number =
    listing_or_none index sources number (slice_get index.documents number) (source_at sources number)

-- a file
abbrev pub file : (path bytes : List ℕ) → MadeFile
file path bytes = record { path = path; bytes = bytes }

-- the file of the page of a document with a path
abbrev pub page_file : List ℕ → Option (List ℕ) → List MadeFile
page_file path None = []
page_file path (Some page) = file (page_path path) page ∷ []

abbrev pub page_file_at : Index → Sources → ℕ → List MadeFile
page_file_at index sources number =
    page_file (path_listed index.documents number) (page_at index sources number)

-- of documents with numbers
abbrev pub pages : Index → Sources → List ℕ → List MadeFile
pages index sources listed = flat_map (page_file_at index sources) listed

abbrev pub listings : Index → Sources → List ℕ → List ℕ
listings index sources listed = flat_map (listing_at index sources) listed

abbrev pub script_start : List ℕ
script_start = codes "const sources = [\n"

abbrev pub script_end : List ℕ
script_end = codes "];\n"

abbrev pub script_text : Index → Sources → List ℕ
script_text index sources =
    (script_start ++ listings index sources (numbers (length index.documents))) ++ script_end

-- The tree has the documents in the order of their paths' bytes, so that those in one folder are one after another.
abbrev pub path_or_none : List Document → Sources → ℕ → List (List ℕ)
path_or_none documents sources number = cond (has_page sources number) (path_listed documents number ∷ []) []

abbrev pub paths_in : List Document → Sources → List ℕ → List (List ℕ)
paths_in documents sources order = flat_map (path_or_none documents sources) order

-- What all pages share. The first page is made last: if it is there, all are.
abbrev pub shared : (script first : List ℕ) → List MadeFile
shared script first =
    file (codes "pages.css") STYLE.now
    ∷ (file (codes "search.js") SEARCH.now
    ∷ (file (codes "symbols.js") script ∷ (file (codes "index.html") first ∷ [])))

-- the pages in the index's order, and what they share
abbrev pub site_files : Index → Sources → List ℕ → List MadeFile
site_files index sources order =
    pages index sources (numbers (length index.documents))
    ++ shared (script_text index sources) (first_page (paths_in index.documents sources order))

-- in a folder
abbrev pub in_folder : List ℕ → MadeFile → MadeFile
in_folder folder made = record { path = path_in folder made.path; bytes = made.bytes }

-- ---- what is made

abbrev pub AllOf : {O : Type 0} → Maker O → List MadeFile → Type 0
AllOf maker files = MakesAll (maker.files.made maker.before) (maker.files.made maker.after) files

-- or they are, and then one is refused
abbrev pub AllThenNone : {O : Type 0} → Maker O → List MadeFile → Type 0
AllThenNone maker files = StopsBehind (maker.files.made maker.before) (maker.files.made maker.after) files

-- This holds of a first part of some files, behind which there are others.
pub record PartOf (Holds : List MadeFile → Type 0) (files others : List MadeFile) : Type 0 where
  pub part : List MadeFile
  pub is_part : files ≡ part ++ others
  pub holds : Holds part

-- a first part is made, and the next file is refused
pub record AllBut {O : Type 0} (maker : Maker O) (files : List MadeFile) : Type 0 where
  pub refused : MadeFile
  pub others : List MadeFile
  pub made : PartOf (AllThenNone maker) files (refused ∷ others)

-- a first part is made, and the next file isn't
pub record SomeOf {O : Type 0} (maker : Maker O) (files : List MadeFile) : Type 0 where
  pub next : MadeFile
  pub others : List MadeFile
  pub made : PartOf (AllOf maker) files (next ∷ others)

-- Ok: all are made; Write: those before the first that is refused; Memory: a first part, but not all.
abbrev pub MakesFiles : {O : Type 0} → Maker O → List MadeFile → Result (Unit {0}) ShowFault → Type 0
MakesFiles maker files (Ok done) = AllOf maker files
MakesFiles maker files (Err Write) = AllBut maker files
MakesFiles maker files (Err Memory) = SomeOf maker files

-- whether there are documents, but none has a page
abbrev pub is_bare : List Document → Sources → Bool
is_bare [] sources = false
is_bare (document ∷ documents) sources = not (list_any is_some sources)

-- All sources are read, and what has none is told; then files are made, unless none of the documents has a page.
pub record IsMade {O M : Type 0} (gives : List ℕ → Option (List ℕ) → Type 0) (root folder : List ℕ) (index : Index)
    (maker : Maker O) (messages : Writer M) (done : Result (Unit {0}) ShowFault) : Type 0 where
  pub sources : List (Option (List ℕ))
  pub read : AllAreKept gives root index.documents sources messages
  pub there : is_bare index.documents sources ≡ false
  pub order : List ℕ
  pub ordered : IsByPath index.documents order
  pub made : MakesFiles maker (map (in_folder folder) (site_files index sources order)) done

-- or memory ran out before
pub record IsReadInPart {O M : Type 0} (gives : List ℕ → Option (List ℕ) → Type 0) (root : List ℕ) (index : Index)
    (maker : Maker O) (messages : Writer M) : Type 0 where
  pub read : AreReadBy gives root index.documents messages
  pub none_made : AllOf maker []

-- or none has, and no file is made
pub record IsBare {O M : Type 0} (gives : List ℕ → Option (List ℕ) → Type 0) (root : List ℕ) (index : Index)
    (maker : Maker O) (messages : Writer M) : Type 0 where
  pub sources : List (Option (List ℕ))
  pub read : AllAreKept gives root index.documents sources messages
  pub bare : is_bare index.documents sources ≡ true
  pub none_made : maker.after ≡ maker.before

-- The pages of an index are made, unless no document has one; if memory runs out, perhaps before the first.
abbrev pub MakesSite : {O M : Type 0} → (gives : List ℕ → Option (List ℕ) → Type 0) → (root folder : List ℕ) → Index
    → Maker O → Writer M → Result (Unit {0}) SiteFault → Type 0
MakesSite gives root folder index maker messages (Ok done) = IsMade gives root folder index maker messages (Ok done)
MakesSite gives root folder index maker messages (Err (Show Write)) =
    IsMade gives root folder index maker messages (Err Write)
MakesSite gives root folder index maker messages (Err (Show Memory)) =
    IsMade gives root folder index maker messages (Err Memory) ⊎ IsReadInPart gives root index maker messages
MakesSite gives root folder index maker messages (Err NothingThere) = IsBare gives root index maker messages
