-- The tables by which an index is searched, and what their numbers and places stand for.
use Rattle.std.specs.Prelude.{ℕ, ◌+◌, Bool, true, false, List, [], ◌∷◌, ◌++◌, length, map, drop, Option, None, Some}
use Rattle.std.specs.List.{slice_get, AllZip, enumerate_from}
use Rattle.std.specs.Option.{option_map, option_cmp}
use Rattle.std.specs.declared.cmp.Ordering.{Ordering}
use Rattle.std.specs.Ordering.{nat_cmp, on, is_gt}
use Rattle.std.specs.Cmp.Lexicographic.{slice_cmp}
use Rattle.scip_records.specs.declared.records.Index.{Index}
use Rattle.scip_records.specs.declared.records.Document.{Document}
use Rattle.scip_records.specs.declared.records.SymbolInformation.{SymbolInformation}
use Rattle.scip_records.specs.declared.records.Occurrence.{Occurrence}
use Rattle.scip_query.specs.Positions.{position_cmp, start_of}
use Rattle.scip_query.specs.declared.position.Position.{Position}
use Rattle.scip_query.specs.Sites.{Site, Numbered}
use Rattle.scip_query.specs.OccurrenceAt.{stands_at, innermost_cmp}
use Rattle.scip_query.specs.Tables.{IsTable, numbers, IsByPath, IsBySymbol}
use Rattle.scip_query.specs.declared.place.Place.{Place}
use Rattle.scip_query.specs.declared.place.EntryPlace.{EntryPlace}

-- ---- what numbers and places stand for

-- the document with a number
abbrev pub numbered_listed : List Document → ℕ → Option Numbered
numbered_listed documents number =
    option_map (λ (d : Document). record { number = number; document = d }) (slice_get documents number)

-- the documents from a number on, each with its number
abbrev pub numbered_from : ℕ → List Document → List Numbered
numbered_from number documents =
    map (λ (d : ℕ × Document). record { number = d.0; document = d.1 }) (enumerate_from number (drop number documents))

abbrev pub site_or_none : Place → Option Document → Option Site
site_or_none place None = None
site_or_none place (Some d) =
    option_map (λ (o : Occurrence). record { place = place; document = d; occurrence = o })
    (slice_get d.occurrences place.occurrence)

-- what there is, as a list
abbrev pub some_of : {X : Type 0} → Option X → List X
some_of None = []
some_of (Some x) = x ∷ []

-- the site at a place
abbrev pub site_listed : List Document → Place → Option Site
site_listed documents place = site_or_none place (slice_get documents place.document)

abbrev pub entries_or : List SymbolInformation → Option Document → List SymbolInformation
entries_or external None = external
entries_or external (Some d) = d.symbols

-- the symbol entries with a list's number: those of a document, and after the documents the external ones
abbrev pub entries_listed : Index → ℕ → List SymbolInformation
entries_listed index list = entries_or index.external_symbols (slice_get index.documents list)

-- the symbol entry at a place
abbrev pub entry_listed : Index → EntryPlace → Option SymbolInformation
entry_listed index place = slice_get (entries_listed index place.list) place.entry

abbrev pub entry_symbol_or_none : Option SymbolInformation → List ℕ
entry_symbol_or_none None = []
entry_symbol_or_none (Some entry) = entry.symbol

-- and its symbol
abbrev pub entry_symbol_listed : Index → EntryPlace → List ℕ
entry_symbol_listed index place = entry_symbol_or_none (entry_listed index place)

abbrev pub is_behind : Position → Option Occurrence → Bool
is_behind p None = true
is_behind p (Some o) = is_gt (position_cmp (start_of o.range) p)

-- whether the occurrence with a number starts after a position, or there is none
abbrev pub starts_behind : List Occurrence → Position → ℕ → Bool
starts_behind occurrences p number = is_behind p (slice_get occurrences number)

abbrev pub stands_or_not : Position → Option Occurrence → Bool
stands_or_not p None = false
stands_or_not p (Some o) = stands_at p o

-- whether the occurrence with a number is at a position
abbrev pub stands_listed : List Occurrence → Position → ℕ → Bool
stands_listed occurrences p number = stands_or_not p (slice_get occurrences number)

-- ---- orders

abbrev pub entry_symbol_cmp : Index → EntryPlace → EntryPlace → Ordering
entry_symbol_cmp index = on (entry_symbol_listed index) (slice_cmp nat_cmp)

-- of the numbers of a document's occurrences, the innermost first
abbrev pub inner_cmp : List Occurrence → ℕ → ℕ → Ordering
inner_cmp occurrences = on (slice_get occurrences) (option_cmp innermost_cmp)

-- ---- tables

-- the places in a list of symbol entries with a number
abbrev pub entry_places_in : ℕ → List SymbolInformation → List EntryPlace
entry_places_in list entries = map (λ (k : ℕ). record { list = list; entry = k }) (numbers (length entries))

-- those of documents, and then those of the external symbols
abbrev pub entry_places_from : ℕ → List SymbolInformation → List Document → List EntryPlace
entry_places_from list external [] = entry_places_in list external
entry_places_from list external (d ∷ documents) =
    entry_places_in list d.symbols ++ entry_places_from (list + 1) external documents

-- a document's occurrences, the innermost first
abbrev pub IsInnermostFirst : Document → List ℕ → Type 0
IsInnermostFirst d = IsTable (inner_cmp d.occurrences) (numbers (length d.occurrences))

-- all symbol entries by symbol, and of one symbol those of documents in the index's order, and then the external ones
abbrev pub AreEntriesBySymbol : Index → List EntryPlace → Type 0
AreEntriesBySymbol index = IsTable (entry_symbol_cmp index) (entry_places_from 0 index.external_symbols index.documents)

pub record AreTables (index : Index) (path_table : List ℕ) (inner_tables : List (List ℕ)) (symbol_table : List Place)
    (entry_table : List EntryPlace) : Type 0 where
  pub by_path : IsByPath index.documents path_table
  pub inner : AllZip IsInnermostFirst index.documents inner_tables
  pub by_symbol : IsBySymbol index.documents symbol_table
  pub entries_by_symbol : AreEntriesBySymbol index entry_table
