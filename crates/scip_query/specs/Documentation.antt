-- The symbol entries of an index, and the documentation in them (`scip.proto`, SymbolInformation).
use Rattle.std.specs.Prelude.{ℕ, cond, List, [], ◌++◌, Option, None, Some, Result, Ok, Err}
use Rattle.std.specs.List.{flat_map, find}
use Rattle.std.specs.Result.{result_map_both}
use Rattle.std.specs.Str.{bytes_eq}
use Rattle.scip_records.specs.declared.records.Index.{Index}
use Rattle.scip_records.specs.declared.records.Document.{Document}
use Rattle.scip_records.specs.declared.records.SymbolInformation.{SymbolInformation}
use Rattle.scip_query.specs.declared.position.Position.{Position}
use Rattle.scip_query.specs.Sites.{Numbered, document_named}
use Rattle.scip_query.specs.OccurrenceAt.{Subject, subject_at}
use Rattle.scip_query.specs.References.{is_local}
use Rattle.scip_query.specs.declared.miss.Miss.{Miss}
use Rattle.scip_query.specs.declared.miss.Miss.TheVariants.{NoDocument}

-- the entries among which a subject's is looked for: those of all documents and then the external ones,
-- or of a local symbol those of its document
abbrev pub entries_for : Index → Subject → List SymbolInformation
entries_for index subject =
    cond (is_local subject.symbol) subject.asked.document.symbols
    (flat_map (λ (d : Document). d.symbols) index.documents ++ index.external_symbols)

-- the texts of the first entry with the subject's symbol, or none
abbrev pub texts_of : Option SymbolInformation → List (List ℕ)
texts_of None = []
texts_of (Some entry) = entry.documentation

abbrev pub documentation_of : Index → Subject → List (List ℕ)
documentation_of index subject =
    texts_of (find (λ (entry : SymbolInformation). bytes_eq entry.symbol subject.symbol) (entries_for index subject))

-- of what is at a position of the document that a path names
abbrev pub documentation_at : Index → List ℕ → Position → Result (List (List ℕ)) Miss
documentation_at index path p = result_map_both (documentation_of index) (λ miss. miss) (subject_at index path p)

-- the symbol entries of the document that a path names
abbrev pub symbols_in : Option Numbered → Result (List SymbolInformation) Miss
symbols_in None = Err NoDocument
symbols_in (Some d) = Ok d.document.symbols

abbrev pub symbols_of : Index → List ℕ → Result (List SymbolInformation) Miss
symbols_of index path = symbols_in (document_named index path)
