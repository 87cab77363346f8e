-- The records of an index, one after another: what it says about itself; each document, its occurrences and its symbol
-- entries; and the entries of symbols that no document defines. (`scip.proto`, Index)
use Rattle.std.specs.Prelude.{ℕ, Bool, true, false, List, [], ◌∷◌, ◌++◌, map, Option, None, Some}
use Rattle.std.specs.List.{flat_map}
use Rattle.scip_records.specs.declared.records.Index.{Index}
use Rattle.scip_records.specs.declared.records.Metadata.{Metadata}
use Rattle.scip_records.specs.declared.records.Document.{Document}
use Rattle.scip_records.specs.declared.records.Occurrence.{Occurrence}
use Rattle.scip_records.specs.declared.records.SymbolInformation.{SymbolInformation}
use Rattle.scip_query.specs.JsonAnswers.{IsReadBack, json_line}
use Rattle.serde_json.specs.Data.{Data}
use Rattle.scip_survey.specs.RecordLines.{document_line, external_line, metadata_line, occurrence_line, symbol_line}
use Rattle.scip_survey.specs.RecordValues.{document_value, external_value, metadata_value, occurrence_value}
use Rattle.scip_survey.specs.RecordValues.{symbol_value}

-- a record, with the path of the document that it is in
pub data Record : Type 0 where
  OfIndex : (metadata : Metadata) → Record
  OfDocument : (document : Document) → Record
  OfOccurrence : (path : List ℕ) (occurrence : Occurrence) → Record
  OfSymbol : (path : List ℕ) (entry : SymbolInformation) → Record
  OfExternal : (entry : SymbolInformation) → Record

abbrev pub metadata_records : Option Metadata → List Record
metadata_records None = []
metadata_records (Some metadata) = OfIndex metadata ∷ []

abbrev pub document_records : Document → List Record
document_records d =
    OfDocument d ∷ map (OfOccurrence d.relative_path) d.occurrences ++ map (OfSymbol d.relative_path) d.symbols

abbrev pub records_of : Index → List Record
records_of index =
    metadata_records index.metadata ++ flat_map document_records index.documents ++ map OfExternal index.external_symbols

-- a line for a record, in JSON or not
abbrev pub record_line : Record → List ℕ
record_line (OfIndex metadata) = metadata_line metadata
record_line (OfDocument document) = document_line document
record_line (OfOccurrence path occurrence) = occurrence_line path occurrence
record_line (OfSymbol path entry) = symbol_line path entry
record_line (OfExternal entry) = external_line entry

abbrev pub record_value : Record → Data
record_value (OfIndex metadata) = metadata_value metadata
record_value (OfDocument document) = document_value document
record_value (OfOccurrence path occurrence) = occurrence_value path occurrence
record_value (OfSymbol path entry) = symbol_value path entry
record_value (OfExternal entry) = external_value entry

abbrev pub record_text : (json : Bool) → Record → List ℕ
record_text true record_ = json_line (record_value record_)
record_text false record_ = record_line record_

-- the lines of records
abbrev pub records_text : (json : Bool) → List Record → List ℕ
records_text json records = flat_map (record_text json) records

-- the line of a record in JSON is read back as its value
pub record ReadsBack (told : Record) : Type 0 where
  pub back : IsReadBack (json_line (record_value told)) (record_value told)
