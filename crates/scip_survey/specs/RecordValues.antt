-- The records of an index in JSON (RFC 8259): one object for each, with one key, which says what the record is. (The keys
-- are this project's own; those inside are the fields of `scip.proto`.)
use Rattle.std.specs.Prelude.{ℕ, List, codes, map, Option, None, Some}
use Rattle.serde_json.specs.Data.{Data, array, member, no_items, no_members, object, string}
use Rattle.serde_json.specs.View.{items_of}
use Rattle.scip_records.specs.Range.{RangeNumbers}
use Rattle.scip_records.specs.declared.records.Metadata.{Metadata}
use Rattle.scip_records.specs.declared.records.ToolInfo.{ToolInfo}
use Rattle.scip_records.specs.declared.records.Document.{Document}
use Rattle.scip_records.specs.declared.records.Occurrence.{Occurrence}
use Rattle.scip_records.specs.declared.records.SymbolInformation.{SymbolInformation}
use Rattle.scip_query.specs.JsonAnswers.{entry_value, integer_value, range_value}

-- one key and its value
abbrev pub only : (key : List ℕ) → Data → Data
only key value = object (member key value no_members)

-- a range, or no numbers if there is none
abbrev pub range_or_none : Option RangeNumbers → Data
range_or_none None = array no_items
range_or_none (Some range) = range_value range

-- what made the index; an empty object if that isn't known
abbrev pub tool_value : Option ToolInfo → Data
tool_value None = object no_members
tool_value (Some tool) = object
    (member (codes "arguments") (array (items_of (map string tool.arguments)))
    (member (codes "name") (string tool.name)
    (member (codes "version") (string tool.version) no_members)))

abbrev pub metadata_object : Metadata → Data
metadata_object m = object
    (member (codes "project_root") (string m.project_root)
    (member (codes "text_document_encoding") (integer_value m.text_document_encoding)
    (member (codes "tool_info") (tool_value m.tool_info)
    (member (codes "version") (integer_value m.version) no_members))))

abbrev pub metadata_value : Metadata → Data
metadata_value m = only (codes "metadata") (metadata_object m)

abbrev pub document_value : Document → Data
document_value d = only (codes "document") (object
    (member (codes "language") (string d.language)
    (member (codes "path") (string d.relative_path)
    (member (codes "position_encoding") (integer_value d.position_encoding) no_members))))

abbrev pub occurrence_object : List ℕ → Occurrence → Data
occurrence_object path o = object
    (member (codes "enclosing_range") (range_or_none o.enclosing_range)
    (member (codes "path") (string path)
    (member (codes "range") (range_value o.range)
    (member (codes "roles") (integer_value o.symbol_roles)
    (member (codes "symbol") (string o.symbol) no_members)))))

abbrev pub occurrence_value : List ℕ → Occurrence → Data
occurrence_value path o = only (codes "occurrence") (occurrence_object path o)

-- an entry of a document
abbrev pub symbol_value : List ℕ → SymbolInformation → Data
symbol_value path entry = only (codes "symbol") (object
    (member (codes "entry") (entry_value entry)
    (member (codes "path") (string path) no_members)))

-- an entry of a symbol that no document defines
abbrev pub external_value : SymbolInformation → Data
external_value entry = only (codes "external_symbol") (object (member (codes "entry") (entry_value entry) no_members))
