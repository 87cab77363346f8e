-- Where the occurrences of pages lead.
use Rattle.std.specs.Prelude.{ℕ, Bool, false, ◌&&◌, cond, List, ◌++◌, codes, Option, None, Some}
use Rattle.std.specs.List.{find, flat_map}
use Rattle.std.specs.Option.{option_map}
use Rattle.std.specs.Fmt.{decimal}
use Rattle.scip_records.specs.Texts.{unless_empty}
use Rattle.scip_records.specs.declared.records.Index.{Index}
use Rattle.scip_records.specs.declared.records.SymbolInformation.{SymbolInformation}
use Rattle.scip_query.specs.BySymbol.{references_in, entry_in}
use Rattle.scip_query.specs.Documentation.{texts_of}
use Rattle.scip_query.specs.Entries.{signature_in}
use Rattle.scip_query.specs.Tables.{path_listed, symbol_listed, defines_listed}
use Rattle.scip_query.specs.declared.place.Place.{Place}
use Rattle.scip_pages.specs.declared.code.Link.{Link}
use Rattle.scip_pages.specs.Urls.{url_of}
use Rattle.scip_pages.specs.declared.facts.Known.{Known}
use Rattle.scip_pages.specs.Shown.{shown_symbol}
use Rattle.scip_pages.specs.Hover.{shortened}
use Rattle.scip_pages.specs.Site.{Sources, has_page, line_listed, page_path, same_place}

-- whether a definition that has a page is at a place
abbrev pub is_shown_definition : Index → Sources → Place → Bool
is_shown_definition index sources place = has_page sources place.document && defines_listed index.documents place

-- the first such of a symbol that is asked for in the document with a number
abbrev pub definition_of : Index → Sources → ℕ → List ℕ → Option Place
definition_of index sources document symbol =
    find (is_shown_definition index sources) (references_in index document symbol)

-- what is said of a symbol: the symbol, as it is shown, and below it what its entry says, its signature and then its
-- documentation
abbrev pub below : List ℕ → List ℕ
below text = codes "\n" ++ text

abbrev pub label_of : List ℕ → Option SymbolInformation → List ℕ
label_of symbol entry =
    shown_symbol symbol ++ flat_map below (unless_empty (signature_in entry)) ++ flat_map below (texts_of entry)

-- and what of that is shown where a pointer hovers
abbrev pub hover_of : List ℕ → Option SymbolInformation → List ℕ
hover_of symbol entry = shortened (label_of symbol entry)

-- all that is said of the symbol at a place
abbrev pub label_at : Index → Place → List ℕ
label_at index place =
    label_of (symbol_listed index.documents place)
    (entry_in index place.document (symbol_listed index.documents place))

-- what is known of a symbol that is asked for in a document
abbrev pub known_of : Index → Sources → ℕ → List ℕ → Known
known_of index sources document symbol = record {
  definition = definition_of index sources document symbol;
  label = hover_of symbol (entry_in index document symbol);
}

abbrev pub known_at : Index → Sources → Place → Known
known_at index sources place = known_of index sources place.document (symbol_listed index.documents place)

-- the line of a place, as the page of the document with a number names it
abbrev pub place_url : Index → ℕ → Place → List ℕ
place_url index from place =
    url_of (page_path (path_listed index.documents from)) (page_path (path_listed index.documents place.document))
    (line_listed index.documents place)

-- where the uses of what an occurrence defines are, below the code of its page
abbrev pub uses_id : ℕ → List ℕ
uses_id occurrence = codes "U" ++ decimal occurrence

abbrev pub uses_url : ℕ → List ℕ
uses_url occurrence = codes "#U" ++ decimal occurrence

-- From its definition an occurrence leads to the uses, from elsewhere to the definition.
abbrev pub target_of : Index → Place → Place → List ℕ
target_of index place definition =
    cond (same_place definition place) (uses_url place.occurrence) (place_url index place.document definition)

-- the link of the occurrence at a place
abbrev pub link_with : Index → Place → Known → Link
link_with index place known =
    record { target = option_map (target_of index place) known.definition; label = known.label }

abbrev pub link_at : Index → Sources → Place → Link
link_at index sources place = link_with index place (known_at index sources place)

-- whether the occurrence at a place is the first definition of its symbol
abbrev pub is_at : Place → Option Place → Bool
is_at place None = false
is_at place (Some definition) = same_place definition place

abbrev pub is_first : Index → Sources → Place → Bool
is_first index sources place = is_at place (known_at index sources place).definition
