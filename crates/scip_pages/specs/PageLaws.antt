-- Laws of pages.
use Rattle.std.specs.Prelude.{ℕ, ◌≡◌, ◌≢◌, ◌<◌, ◌^◌, true, false, List, ◌++◌, codes, None, Some}
use Rattle.std.specs.List.{AllByRecursion, Contains, slice_get}
use Rattle.std.specs.Fmt.{decimal}
use Rattle.scip_records.specs.declared.records.Index.{Index}
use Rattle.scip_records.specs.declared.records.Document.{Document}
use Rattle.scip_records.specs.declared.records.Occurrence.{Occurrence}
use Rattle.scip_query.specs.BySymbol.{references_in}
use Rattle.scip_query.specs.References.{is_local}
use Rattle.scip_query.specs.Tables.{defines_listed, symbol_listed}
use Rattle.scip_query.specs.declared.place.Place.{Place}
use Rattle.scip_pages.specs.declared.columns.ColumnUnit.{ColumnUnit}
use Rattle.scip_pages.specs.declared.code.Link.{Link}
use Rattle.scip_pages.specs.Escapes.{pictured}
use Rattle.scip_pages.specs.Plain.{plain}
use Rattle.scip_pages.specs.Snapshot.{lines_of}
use Rattle.scip_pages.specs.Site.{Sources, has_page, line_listed}
use Rattle.scip_pages.specs.Targets.{definition_of, is_shown_definition, link_at, place_url, target_of, uses_id}
use Rattle.scip_pages.specs.CodeText.{code_text}
use Rattle.scip_pages.specs.Ids.{unit_in, AllFit, IsShown, IsUrl, Leads}
use Rattle.scip_pages.specs.Page.{page_of}
use Rattle.scip_pages.specs.Tags.{urls_of}

-- The code of a page, without its marks and with its references undone, is the source, whatever the index holds. For
-- a NUL in the source stands its picture.
abbrev pub HasTheSource : Type 0
HasTheSource =
    (unit : ColumnUnit) (occurrences : List Occurrence) (links : List Link) (source : List ℕ)
    → plain (code_text unit occurrences links (lines_of source)) ≡ pictured source

-- A use leads to a definition of its symbol, in a document that has a page; of a local symbol, in the use's own.
abbrev pub LeadsToAPage : Type 0
LeadsToAPage =
    (index : Index) (sources : Sources) (document : ℕ) (symbol : List ℕ) (place : Place)
    → definition_of index sources document symbol ≡ Some place
    → (has_page sources place.document ≡ true) × (defines_listed index.documents place ≡ true)
    × (symbol_listed index.documents place ≡ symbol) × (is_local symbol ≡ true → place.document ≡ document)

-- If it leads nowhere, no occurrence of the symbol is such a definition.
abbrev pub LeadsIfDefined : Type 0
LeadsIfDefined =
    (index : Index) (sources : Sources) (document : ℕ) (symbol : List ℕ) (place : Place)
    → definition_of index sources document symbol ≡ None → Contains (references_in index document symbol) place
    → is_shown_definition index sources place ≡ false

-- So each link of a page's code leads to the line of that definition, or from there to its uses, and has its target
-- among the pages,
pub record LeadsToDefinition (index : Index) (sources : Sources) (place : Place) (url : List ℕ) : Type 0 where
  pub definition : Place
  pub is : definition_of index sources place.document (symbol_listed index.documents place) ≡ Some definition
  pub url_is : url ≡ target_of index place definition
  pub leads : Leads index sources place.document url

abbrev pub LinksLead : Type 0
LinksLead =
    (index : Index) (sources : Sources) → AllFit index sources
    → (place : Place) (url : List ℕ) → IsShown index sources place
    → (link_at index sources place).target ≡ Some url → LeadsToDefinition index sources place url

-- and each use that a page lists,
abbrev pub UsesLead : Type 0
UsesLead =
    (index : Index) (sources : Sources) → AllFit index sources
    → (from : ℕ) (place : Place) → IsShown index sources place
    → Leads index sources from (place_url index from place)

-- and what a page defines its line.
abbrev pub DefinitionsLead : Type 0
DefinitionsLead =
    (index : Index) (sources : Sources) → AllFit index sources
    → (place : Place) → IsShown index sources place
    → Leads index sources place.document (codes "#L" ++ decimal (line_listed index.documents place))

-- Each line of a page, and the uses of each definition, have an id of their own,
abbrev pub HaveTheirOwnIds : Type 0
HaveTheirOwnIds =
    (a b : ℕ) → a < 2 ^ 64 → b < 2 ^ 64
    → (codes "L" ++ decimal a ≡ codes "L" ++ decimal b → a ≡ b)
    × (uses_id a ≡ uses_id b → a ≡ b)
    × (codes "L" ++ decimal a ≢ uses_id b)

-- and no other URL stands in the text of a page.
abbrev pub EachUrlLeads : Type 0
EachUrlLeads =
    (index : Index) (sources : Sources) → AllFit index sources
    → (number : ℕ) (d : Document) (source : List ℕ)
    → slice_get index.documents number ≡ Some d → slice_get sources number ≡ Some (Some source)
    → AllByRecursion (IsUrl index sources number d.relative_path)
    (urls_of (page_of index sources number d (unit_in d) (lines_of source)))
