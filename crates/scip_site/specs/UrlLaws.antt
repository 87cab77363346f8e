-- Laws of the URLs that stand in pages, in the first page and in the list of symbols.
use Rattle.std.specs.Prelude.{ℕ, ◌≡◌, List, ◌++◌, codes, Some}
use Rattle.std.specs.List.{AllByRecursion, Contains, slice_get}
use Rattle.std.specs.Fmt.{decimal}
use Rattle.scip_records.specs.declared.records.Index.{Index}
use Rattle.scip_records.specs.declared.records.Document.{Document}
use Rattle.scip_query.specs.Tables.{IsByPath}
use Rattle.scip_query.specs.declared.place.Place.{Place}
use Rattle.scip_pages.specs.Snapshot.{lines_of}
use Rattle.scip_pages.specs.Urls.{encoded, ups}
use Rattle.source_files.specs.Made.{MadeFile}
use Rattle.scip_pages.specs.Ids.{unit_in, AllFit, HasId}
use Rattle.scip_pages.specs.Page.{firsts_of, page_of}
use Rattle.scip_pages.specs.Site.{Sources, line_listed, page_path}
use Rattle.scip_pages.specs.Tags.{urls_of}
use Rattle.scip_site.specs.Making.{file, paths_in, site_files}
use Rattle.scip_site.specs.Tree.{first_page}

-- A URL on the page with a path leads to a file, to an element of a file, or to one of the page itself.
-- (RFC 3986, 4.2 "Relative Reference", 4.4 "Same-Document Reference", 3.5 "Fragment"; HTML Standard, 7.4.6.4
-- "Scrolling to a fragment")
pub data LeadsTo (files : List MadeFile) (from : List ℕ) : List ℕ → Type 0 where
  to_file : {path bytes : List ℕ} → Contains files (file path bytes) → LeadsTo files from (ups from ++ encoded path)
  to_element : {path bytes id : List ℕ} → Contains files (file path bytes) → HasId id bytes
      → LeadsTo files from (ups from ++ encoded path ++ (codes "#" ++ id))
  to_own : {bytes id : List ℕ} → Contains files (file from bytes) → HasId id bytes
      → LeadsTo files from (codes "#" ++ id)

-- Each URL that stands in a page leads to a file that is made, and to an element of it,
abbrev pub PageUrlsLead : Type 0
PageUrlsLead =
    (index : Index) (sources : Sources) (order : List ℕ) → AllFit index sources → IsByPath index.documents order
    → (number : ℕ) (d : Document) (source : List ℕ)
    → slice_get index.documents number ≡ Some d → slice_get sources number ≡ Some (Some source)
    → AllByRecursion (LeadsTo (site_files index sources order) (page_path d.relative_path))
    (urls_of (page_of index sources number d (unit_in d) (lines_of source)))

-- so does each in the first page,
abbrev pub FirstUrlsLead : Type 0
FirstUrlsLead =
    (index : Index) (sources : Sources) (order : List ℕ) → IsByPath index.documents order
    → AllByRecursion (LeadsTo (site_files index sources order) (codes "index.html"))
    (urls_of (first_page (paths_in index.documents sources order)))

-- and each in the list of symbols (`listing_text`), which the first page reads, alone and with a line behind `#L`.
pub record ListedLead (files : List MadeFile) (index : Index) (sources : Sources) (number : ℕ) (d : Document) : Type 0
  where
    pub page : LeadsTo files (codes "index.html") (encoded (page_path d.relative_path))
    pub lines : (place : Place) → Contains (firsts_of index sources number d) place
        → LeadsTo files (codes "index.html")
        (encoded (page_path d.relative_path) ++ (codes "#L" ++ decimal (line_listed index.documents place)))

abbrev pub ListedUrlsLead : Type 0
ListedUrlsLead =
    (index : Index) (sources : Sources) (order : List ℕ) → AllFit index sources
    → (number : ℕ) (d : Document) (source : List ℕ)
    → slice_get index.documents number ≡ Some d → slice_get sources number ≡ Some (Some source)
    → ListedLead (site_files index sources order) index sources number d
