-- What has a name: occurrences and entries.
use Rattle.std.specs.Prelude.{ℕ, Bool, false, not, ◌&&◌, List, [], ◌++◌, filter, Result}
use Rattle.std.specs.List.{flat_map}
use Rattle.std.specs.Option.{unwrap_or}
use Rattle.std.specs.Result.{result_map_both}
use Rattle.std.specs.Str.{bytes_eq}
use Rattle.scip_records.specs.declared.records.Index.{Index}
use Rattle.scip_records.specs.declared.records.Document.{Document}
use Rattle.scip_records.specs.declared.records.SymbolInformation.{SymbolInformation}
use Rattle.scip_query.specs.declared.miss.Miss.{Miss}
use Rattle.scip_query.specs.declared.position.Position.{Position}
use Rattle.scip_query.specs.Sites.{Site, sites_of}
use Rattle.scip_query.specs.OccurrenceAt.{Subject, subject_at}
use Rattle.scip_query.specs.References.{is_definition}
use Rattle.scip_query.specs.Entries.{entry_of, shown_name}
use Rattle.scip_query.specs.Names.{likeness}
use Rattle.scip_query.specs.Tables.Searches.{some_of}

-- a text is a name of a symbol that is shown by another: it is that, or the full name, or what is behind a dot of this
abbrev pub is_name : (text shown symbol : List ℕ) → Bool
is_name text shown symbol = unwrap_or (likeness text shown symbol) false

-- the symbol of an occurrence, asked for in its document
abbrev pub subject_of : Site → Subject
subject_of site = record {
  asked = record { number = site.place.document; document = site.document };
  symbol = site.occurrence.symbol;
}

-- an occurrence has a name if its symbol has it. (No name is that of the empty symbol.)
abbrev pub has_name : Index → List ℕ → Site → Bool
has_name index text site =
    not (bytes_eq site.occurrence.symbol [])
    && is_name text (shown_name (entry_of index (subject_of site))) site.occurrence.symbol

-- all occurrences of symbols with a name, in the index's order
abbrev pub references_named : Index → List ℕ → List Site
references_named index text = filter (has_name index text) (sites_of index)

-- those that define one
abbrev pub is_defining : Site → Bool
is_defining site = is_definition site.occurrence

abbrev pub definitions_named : Index → List ℕ → List Site
definitions_named index text = filter is_defining (references_named index text)

-- the symbol entries of an index: those of all documents, and then the external ones
abbrev pub all_entries : Index → List SymbolInformation
all_entries index = flat_map (λ (d : Document). d.symbols) index.documents ++ index.external_symbols

-- those with a name
abbrev pub is_named : List ℕ → SymbolInformation → Bool
is_named text entry = is_name text entry.display_name entry.symbol

abbrev pub entries_named : Index → List ℕ → List SymbolInformation
entries_named index text = filter (is_named text) (all_entries index)

-- the entry of the symbol at a position of the document that a path names, if it has one
abbrev pub entries_at : Index → List ℕ → Position → Result (List SymbolInformation) Miss
entries_at index path p =
    result_map_both (λ (subject : Subject). some_of (entry_of index subject)) (λ miss. miss) (subject_at index path p)
