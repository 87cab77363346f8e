-- Places of pages, and the URLs that lead to them.
use Rattle.std.specs.Prelude.{ℕ, ◌≡◌, true, List, [], ◌++◌, codes, None, Some, IsSome}
use Rattle.std.specs.List.{Contains, slice_get}
use Rattle.std.specs.Option.{unwrap_or}
use Rattle.scip_records.specs.declared.records.Index.{Index}
use Rattle.scip_records.specs.declared.records.Document.{Document}
use Rattle.scip_query.specs.Tables.{path_listed, occurrence_listed}
use Rattle.scip_query.specs.declared.place.Place.{Place}
use Rattle.scip_pages.specs.declared.columns.ColumnUnit.{ColumnUnit}
use Rattle.scip_pages.specs.declared.columns.ColumnUnit.TheVariants.{Utf8}
use Rattle.scip_pages.specs.Columns.{unit_of}
use Rattle.scip_pages.specs.Snapshot.{lines_of, misfit}
use Rattle.scip_pages.specs.Urls.{encoded, folder_of, ups}
use Rattle.scip_pages.specs.Crumbs.{file_url, folder_url, folders_on}
use Rattle.scip_pages.specs.Site.{Sources, has_page, page_path}
use Rattle.scip_pages.specs.Page.{page_of}
use Rattle.scip_pages.specs.Tags.{ids_of}

-- A page has a place with an id if that is the id of one of its elements.
-- (HTML Standard, 3.2.6 "Global attributes", `id`; 7.4.6.4 "Scrolling to a fragment")
abbrev pub HasId : (id page : List ℕ) → Type 0
HasId id page = Contains (ids_of page) id

-- what the columns of a document count
abbrev pub unit_in : Document → ColumnUnit
unit_in d = unwrap_or (unit_of d.position_encoding) Utf8

-- the page of the document with a number, which has one
pub record IsPage (index : Index) (sources : Sources) (number : ℕ) (page : List ℕ) : Type 0 where
  pub document : Document
  pub source : List ℕ
  pub listed : slice_get index.documents number ≡ Some document
  pub has_source : slice_get sources number ≡ Some (Some source)
  pub is : page ≡ page_of index sources number document (unit_in document) (lines_of source)

-- Each range of a document that has a page is one of its source.
abbrev pub AllFit : Index → Sources → Type 0
AllFit index sources =
    (number : ℕ) (d : Document) (source : List ℕ)
    → slice_get index.documents number ≡ Some d → slice_get sources number ≡ Some (Some source)
    → misfit (unit_in d) (lines_of source) d.occurrences ≡ None

-- an occurrence of a document that has a page
pub record IsShown (index : Index) (sources : Sources) (place : Place) : Type 0 where
  pub listed : IsSome (occurrence_listed index.documents place)
  pub has : has_page sources place.document ≡ true

-- A URL on the page of a document leads to a place of this page, or to a place of the page with a path.
-- (RFC 3986, 4.2 "Relative Reference", 4.4 "Same-Document Reference", 3.5 "Fragment")
pub data Leads (index : Index) (sources : Sources) (from : ℕ) : List ℕ → Type 0 where
  within : {id page : List ℕ} → IsPage index sources from page → HasId id page
      → Leads index sources from (codes "#" ++ id)
  across : {to : ℕ} {id page : List ℕ} → IsPage index sources to page → HasId id page
      → Leads index sources from (ups (page_path (path_listed index.documents from))
      ++ encoded (page_path (path_listed index.documents to)) ++ (codes "#" ++ id))

-- A URL on the page of a document with a path leads to such a place, to the style sheet, to the first page, or to the
-- place there of a folder on the way to the document.
pub data IsUrl (index : Index) (sources : Sources) (number : ℕ) (path : List ℕ) : List ℕ → Type 0 where
  to_place : {url : List ℕ} → Leads index sources number url → IsUrl index sources number path url
  to_style : IsUrl index sources number path (file_url (page_path path) (codes "pages.css"))
  to_first : IsUrl index sources number path (file_url (page_path path) (codes "index.html"))
  to_folder : {folder : List ℕ} → Contains (folders_on [] (folder_of path)) folder
      → IsUrl index sources number path (folder_url (page_path path) folder)
