-- Laws of a folder of pages.
use Rattle.std.specs.Prelude.{ℕ, ◌≡◌, ◌≢◌, ◌<◌, true, false, List, ◌++◌, codes, Option, None, Some}
use Rattle.std.specs.List.{AllByRecursion, flat_map, slice_get}
use Rattle.scip_records.specs.declared.records.Index.{Index}
use Rattle.scip_records.specs.declared.records.Document.{Document}
use Rattle.source_files.specs.Made.{MadeFile}
use Rattle.scip_pages.specs.Paths.{is_path_below}
use Rattle.scip_pages.specs.Snapshot.{lines_of, misfit}
use Rattle.scip_pages.specs.Ids.{unit_in, AllFit}
use Rattle.scip_site.specs.Making.{site_files}
use Rattle.scip_site.specs.Reading.{AreRead, sources_of, Read}
use Rattle.scip_site.specs.Repeats.{is_repeated}
use Rattle.scip_site.specs.Script.{quoted_byte, read_behind}
use Rattle.scip_pages.specs.Site.{Sources, page_path}

-- What is known of a document with a number that has a page: its path is that of a page, no document before it has
-- its path, and its ranges are ranges of its source.
pub record IsGood (documents : List Document) (number : ℕ) (d : Document) (source : List ℕ) : Type 0 where
  pub path : is_path_below d.relative_path ≡ true
  pub own : is_repeated documents number ≡ false
  pub fits : misfit (unit_in d) (lines_of source) d.occurrences ≡ None

abbrev pub AllAreGood : List Document → Sources → Type 0
AllAreGood documents sources =
    (number : ℕ) (d : Document) (source : List ℕ)
    → slice_get documents number ≡ Some d → slice_get sources number ≡ Some (Some source)
    → IsGood documents number d source

-- Sources that are read are those of such documents,
abbrev pub ReadsAreGood : (gives : List ℕ → Option (List ℕ) → Type 0) → Type 0
ReadsAreGood gives =
    (root : List ℕ) (documents : List Document) (reads : List Read)
    → AreRead gives root documents reads → AllAreGood documents (sources_of reads)

-- so that each link leads to a place (`LinksLead`, `UsesLead`, `DefinitionsLead` of `source_page`),
abbrev pub GoodSourcesFit : Type 0
GoodSourcesFit = (index : Index) (sources : Sources) → AllAreGood index.documents sources → AllFit index sources

-- each file is below the folder of all pages (`StaysBelow` of `scip_pages`),
abbrev pub FilesStayBelow : Type 0
FilesStayBelow =
    (index : Index) (sources : Sources) (order : List ℕ) → AllAreGood index.documents sources
    → AllByRecursion (λ (made : MadeFile). is_path_below made.path ≡ true) (site_files index sources order)

-- none is where another has a folder,
abbrev pub IsNoFolder : MadeFile → MadeFile → Type 0
IsNoFolder made other = (behind : List ℕ) → other.path ≢ made.path ++ (codes "/" ++ behind)

abbrev pub FilesAreNoFolders : Type 0
FilesAreNoFolders =
    (index : Index) (sources : Sources) (order : List ℕ)
    → AllByRecursion (λ (made : MadeFile). AllByRecursion (IsNoFolder made) (site_files index sources order))
    (site_files index sources order)

-- and no page is made twice.
abbrev pub PagesAreMadeOnce : Type 0
PagesAreMadeOnce =
    (documents : List Document) (sources : Sources) → AllAreGood documents sources
    → (number other : ℕ) (d e : Document) (source other_source : List ℕ)
    → slice_get documents number ≡ Some d → slice_get sources number ≡ Some (Some source)
    → slice_get documents other ≡ Some e → slice_get sources other ≡ Some (Some other_source)
    → page_path d.relative_path ≡ page_path e.relative_path → number ≡ other

-- What a reader of scripts makes of a text between quotes is the text,
abbrev pub QuotesShowTheText : Type 0
QuotesShowTheText =
    (text : List ℕ) → AllByRecursion (λ b. b < 256) text → read_behind 0 (flat_map quoted_byte text) ≡ text

-- and none of its bytes ends the text between quotes, its line, or a script in a page.
abbrev pub QuotesEndNothing : Type 0
QuotesEndNothing =
    (text : List ℕ)
    → AllByRecursion (λ b. (b ≢ 34) × (b ≢ 60) × (b ≢ 10) × (b ≢ 13)) (flat_map quoted_byte text)
