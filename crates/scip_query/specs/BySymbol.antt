-- What is asked about a symbol by itself, in a document: a local symbol is looked for only there, any other
-- everywhere.
use Rattle.std.specs.Prelude.{ℕ, List, [], Option, map}
use Rattle.std.specs.List.{slice_get}
use Rattle.std.specs.Option.{option_map, option_and_then, unwrap_or}
use Rattle.scip_records.specs.declared.records.Index.{Index}
use Rattle.scip_records.specs.declared.records.Document.{Document}
use Rattle.scip_records.specs.declared.records.SymbolInformation.{SymbolInformation}
use Rattle.scip_query.specs.Sites.{Site}
use Rattle.scip_query.specs.OccurrenceAt.{Subject}
use Rattle.scip_query.specs.References.{references_of}
use Rattle.scip_query.specs.Entries.{entry_of}
use Rattle.scip_query.specs.declared.place.Place.{Place}

-- a symbol, asked for in the document with a number, if there is one
abbrev pub subject_in : Index → ℕ → List ℕ → Option Subject
subject_in index number symbol =
    option_map (λ (d : Document). record { asked = record { number = number; document = d }; symbol = symbol })
    (slice_get index.documents number)

-- where its occurrences are listed, its definitions among them
abbrev pub references_in : Index → ℕ → List ℕ → List Place
references_in index number symbol =
    unwrap_or (option_map (λ (s : Subject). map (λ (site : Site). site.place) (references_of index s))
    (subject_in index number symbol)) []

-- its entry
abbrev pub entry_in : Index → ℕ → List ℕ → Option SymbolInformation
entry_in index number symbol = option_and_then (entry_of index) (subject_in index number symbol)
