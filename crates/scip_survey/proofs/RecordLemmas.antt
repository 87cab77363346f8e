-- The values of records have no floats, and a document's records come one after another.
use Rattle.std.proofs.Common.{◌≡◌, ◌||◌, ℕ, Bool, false, List, [], ◌∷◌, ◌++◌, map, refl, sym, ◌∙◌, ap, ap₂, append_assoc}
use Rattle.std.specs.Prelude.{Option, None, Some}
use Rattle.std.specs.List.{flat_map}
use Rattle.std.proofs.lemmas.List.Concat.{flat_map-append}
use Rattle.serde_json.specs.Data.{string}
use Rattle.serde_json.specs.Written.{has_float}
use Rattle.scip_records.specs.Range.{RangeNumbers}
use Rattle.scip_records.specs.declared.records.Document.{Document}
use Rattle.scip_records.specs.declared.records.Metadata.{Metadata}
use Rattle.scip_records.specs.declared.records.Occurrence.{Occurrence}
use Rattle.scip_records.specs.declared.records.SymbolInformation.{SymbolInformation}
use Rattle.scip_records.specs.declared.records.ToolInfo.{ToolInfo}
use Rattle.scip_query.proofs.AnswerLemmas.{lines_map}
use Rattle.scip_query.proofs.JsonLemmas.{of_entry, of_list, of_whole}
use Rattle.scip_survey.specs.RecordValues.{document_value, external_value, metadata_value, occurrence_value}
use Rattle.scip_survey.specs.RecordValues.{range_or_none, symbol_value, tool_value}
use Rattle.scip_records.specs.declared.records.Index.{Index}
use Rattle.scip_survey.specs.Records.{OfDocument, OfExternal, OfOccurrence, OfSymbol, Record, document_records}
use Rattle.scip_survey.specs.Records.{metadata_records, record_text, records_of, records_text}

of_tool : (tool : Option ToolInfo) → has_float (tool_value tool) ≡ false
of_tool None = refl
of_tool (Some tool) = ap (λ b. b || false) (of_list string (λ text. refl) tool.arguments)

of_range : (range : Option RangeNumbers) → has_float (range_or_none range) ≡ false
of_range None = refl
of_range (Some range) = refl

pub of_metadata : (m : Metadata) → has_float (metadata_value m) ≡ false
of_metadata m =
    ap₂ (λ a b. (a || b) || false) (of_whole m.text_document_encoding)
    (ap₂ (λ a b. a || (b || false)) (of_tool m.tool_info) (of_whole m.version))

pub of_document : (d : Document) → has_float (document_value d) ≡ false
of_document d = ap (λ b. (b || false) || false) (of_whole d.position_encoding)

pub of_occurrence : (path : List ℕ) (o : Occurrence) → has_float (occurrence_value path o) ≡ false
of_occurrence path o =
    ap₂ (λ a b. (a || (b || false)) || false) (of_range o.enclosing_range) (of_whole o.symbol_roles)

pub of_symbol : (path : List ℕ) (entry : SymbolInformation) → has_float (symbol_value path entry) ≡ false
of_symbol path entry = ap (λ b. (b || false) || false) (of_entry entry)

pub of_external : (entry : SymbolInformation) → has_float (external_value entry) ≡ false
of_external entry = ap (λ b. (b || false) || false) (of_entry entry)

-- a document, its occurrences and its entries
pub document_text : (json : Bool) (d : Document) (text heading lines all : List ℕ)
    → heading ≡ text ++ record_text json (OfDocument d)
    → lines ≡ heading ++ flat_map (λ o. record_text json (OfOccurrence d.relative_path o)) d.occurrences
    → all ≡ lines ++ flat_map (λ entry. record_text json (OfSymbol d.relative_path entry)) d.symbols
    → all ≡ text ++ records_text json (document_records d)
document_text json d text heading lines all headed listed ended =
    let own = record_text json (OfDocument d) in
    let occurring = flat_map (λ o. record_text json (OfOccurrence d.relative_path o)) d.occurrences in
    let known = flat_map (λ entry. record_text json (OfSymbol d.relative_path entry)) d.symbols in
    let all_are : occurring ++ known
    ≡ records_text json (map (OfOccurrence d.relative_path) d.occurrences ++ map (OfSymbol d.relative_path) d.symbols) =
    ap₂ (λ a b. a ++ b) (lines_map (record_text json) (OfOccurrence d.relative_path) d.occurrences)
    (lines_map (record_text json) (OfSymbol d.relative_path) d.symbols)
    ∙ sym (flat_map-append (record_text json) (map (OfOccurrence d.relative_path) d.occurrences)
    (map (OfSymbol d.relative_path) d.symbols)) in
    ended ∙ ap (λ l. l ++ known) (listed ∙ ap (λ l. l ++ occurring) headed)
    ∙ append_assoc (text ++ own) occurring known ∙ append_assoc text own (occurring ++ known)
    ∙ ap (λ l. text ++ (own ++ l)) all_are

documents_text : (json : Bool) (documents : List Document)
    → flat_map (λ d. records_text json (document_records d)) documents
    ≡ records_text json (flat_map document_records documents)
documents_text json [] = refl
documents_text json (d ∷ documents) =
    ap (λ l. records_text json (document_records d) ++ l) (documents_text json documents)
    ∙ sym (flat_map-append (record_text json) (document_records d) (flat_map document_records documents))

-- what an index says of itself, its documents, and the external entries
pub index_text : (json : Bool) (index : Index) (text own listed all : List ℕ) → text ≡ []
    → own ≡ text ++ records_text json (metadata_records index.metadata)
    → listed ≡ own ++ flat_map (λ d. records_text json (document_records d)) index.documents
    → all ≡ listed ++ flat_map (λ entry. record_text json (OfExternal entry)) index.external_symbols
    → all ≡ records_text json (records_of index)
index_text json index text own listed all none said told ended =
    let first = metadata_records index.metadata in
    let documents : List Record = flat_map document_records index.documents in
    let external : List Record = map OfExternal index.external_symbols in
    ended
    ∙ ap₂ (λ a b. a ++ b)
    (told ∙ ap₂ (λ a b. a ++ b) (said ∙ ap (λ l. l ++ records_text json first) none) (documents_text json index.documents)
    ∙ sym (flat_map-append (record_text json) first documents))
    (lines_map (record_text json) OfExternal index.external_symbols)
    ∙ sym (flat_map-append (record_text json) (first ++ documents) external)
