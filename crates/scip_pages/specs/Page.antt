-- The page of a document.
use Rattle.std.specs.Prelude.{ℕ, List, ◌++◌, codes, map, filter}
use Rattle.scip_records.specs.declared.records.Index.{Index}
use Rattle.scip_records.specs.declared.records.Document.{Document}
use Rattle.scip_records.specs.declared.records.Occurrence.{Occurrence}
use Rattle.scip_query.specs.Tables.{places_in}
use Rattle.scip_query.specs.declared.place.Place.{Place}
use Rattle.scip_pages.specs.declared.columns.ColumnUnit.{ColumnUnit}
use Rattle.scip_pages.specs.declared.code.Link.{Link}
use Rattle.scip_pages.specs.Site.{Sources, page_path}
use Rattle.scip_pages.specs.Targets.{link_at, is_first}
use Rattle.scip_pages.specs.CodeText.{code_text}
use Rattle.scip_pages.specs.Crumbs.{head_text, crumbs_text}
use Rattle.scip_pages.specs.Uses.{all_defined}

-- the links of a document's occurrences
abbrev pub links_of : Index → Sources → ℕ → Document → List Link
links_of index sources number document = map (link_at index sources) (places_in number document)

-- those that are the first definition of their symbol
abbrev pub firsts_of : Index → Sources → ℕ → Document → List Place
firsts_of index sources number document = filter (is_first index sources) (places_in number document)

-- what a page begins with
abbrev pub start_text : List ℕ → List ℕ
start_text path = head_text (page_path path) path ++ crumbs_text (page_path path) path

-- the code, and below it what it defines
abbrev pub main_text : Index → Sources → ColumnUnit → List Occurrence → List Link → List (List ℕ) → List Place → List ℕ
main_text index sources unit occurrences links lines firsts =
    codes "<main>\n<pre>" ++ code_text unit occurrences links lines ++ codes "</pre>\n"
    ++ all_defined index sources unit lines firsts ++ codes "</main>\n</body>\n</html>\n"

-- the page of the document with a number, whose source has these lines
abbrev pub page_of : Index → Sources → ℕ → Document → ColumnUnit → List (List ℕ) → List ℕ
page_of index sources number document unit lines =
    start_text document.relative_path
    ++ main_text index sources unit document.occurrences (links_of index sources number document) lines
    (firsts_of index sources number document)
