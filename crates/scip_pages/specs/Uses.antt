-- What a page defines, and who uses it.
use Rattle.std.specs.Prelude.{ℕ, Bool, not, ◌&&◌, cond, List, [], ◌∷◌, ◌++◌, codes, Option, None, Some}
use Rattle.std.specs.List.{flat_map}
use Rattle.std.specs.Fmt.{decimal}
use Rattle.scip_records.specs.declared.records.Index.{Index}
use Rattle.scip_records.specs.declared.records.Occurrence.{Occurrence}
use Rattle.scip_query.specs.BySymbol.{references_in}
use Rattle.scip_query.specs.Tables.{path_listed, symbol_listed, occurrence_listed}
use Rattle.scip_query.specs.declared.place.Place.{Place}
use Rattle.scip_pages.specs.declared.columns.ColumnUnit.{ColumnUnit}
use Rattle.scip_pages.specs.Snapshot.{inside_in}
use Rattle.scip_pages.specs.Code.{attribute}
use Rattle.scip_pages.specs.Escapes.{escape}
use Rattle.scip_pages.specs.Marks.{link}
use Rattle.scip_pages.specs.Site.{Sources, has_page, line_listed, same_place}
use Rattle.scip_pages.specs.Targets.{label_at, place_url, uses_id}
use Rattle.scip_pages.specs.CodeText.{line_at}

-- a use: its path and its line, which lead to it
abbrev pub use_name : (path : List ℕ) (line : ℕ) → List ℕ
use_name path line = path ++ codes ":" ++ decimal line

abbrev pub use_link : (url name : List ℕ) → List ℕ
use_link url name = codes "<dd>" ++ link url name ++ codes "</dd>\n"

abbrev pub use_text : Index → ℕ → Place → List ℕ
use_text index from place =
    use_link (place_url index from place)
    (use_name (path_listed index.documents place.document) (line_listed index.documents place))

-- those of what is defined at a place: all occurrences of its symbol that have a page, but the place itself
abbrev pub is_use : Sources → Place → Place → Bool
is_use sources definition place = has_page sources place.document && not (same_place definition place)

abbrev pub use_or_none : Index → Sources → Place → Place → List ℕ
use_or_none index sources definition place =
    cond (is_use sources definition place) (use_text index definition.document place) []

abbrev pub uses_text : Index → Sources → Place → List ℕ
uses_text index sources definition =
    flat_map (use_or_none index sources definition)
    (references_in index definition.document (symbol_listed index.documents definition))

-- the text that an occurrence marks on the line on which it begins
abbrev pub marked_text : ColumnUnit → List (List ℕ) → Option Occurrence → List ℕ
marked_text unit lines None = []
marked_text unit lines (Some o) = inside_in unit (line_at lines o.range.start_line) o.range

-- the name of what is defined at a place: that text, and if it is empty the path of the document
abbrev pub name_or_path : (path name : List ℕ) → List ℕ
name_or_path path [] = path
name_or_path path (byte ∷ name) = byte ∷ name

abbrev pub defined_name : Index → ColumnUnit → List (List ℕ) → Place → List ℕ
defined_name index unit lines place =
    name_or_path (path_listed index.documents place.document)
    (marked_text unit lines (occurrence_listed index.documents place))

-- what is defined, which leads to its line, and all that is said of it
abbrev pub places_text : (occurrence line : ℕ) → List ℕ
places_text occurrence line =
    codes "<dt" ++ attribute (codes "id") (uses_id occurrence) ++ codes "><a"
    ++ attribute (codes "href") (codes "#L" ++ decimal line) ++ codes "><b>"

abbrev pub defined_head : Index → ColumnUnit → List (List ℕ) → Place → List ℕ
defined_head index unit lines place =
    places_text place.occurrence (line_listed index.documents place)
    ++ escape (defined_name index unit lines place) ++ codes "</b> <span>"
    ++ escape (label_at index place) ++ codes "</span></a></dt>\n"

abbrev pub defined_text : Index → Sources → ColumnUnit → List (List ℕ) → Place → List ℕ
defined_text index sources unit lines place =
    defined_head index unit lines place ++ uses_text index sources place

-- of all that is defined first on a page
abbrev pub all_defined : Index → Sources → ColumnUnit → List (List ℕ) → List Place → List ℕ
all_defined index sources unit lines firsts =
    codes "<aside><h2>Definitions and their uses</h2>\n<dl>\n"
    ++ flat_map (defined_text index sources unit lines) firsts ++ codes "</dl>\n</aside>\n"
