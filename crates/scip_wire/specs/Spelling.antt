-- The bytes of an index, written by one rule (Protocol Buffers encoding; field numbers of `scip.proto`):
-- fields by rising number, each varint the shortest, absent what is 0 or empty but in a repeated field.
use Rattle.std.specs.Prelude.{ℕ, zero, suc, ◌+◌, ◌-◌, ◌*◌, ◌/◌, ◌%◌, ◌^◌, ℤ, pos, negsuc, List, [], ◌∷◌, ◌++◌, length}
use Rattle.std.specs.Prelude.{map, flat_map, nat_eq, nat_lt, Option, Some, None, if◌then◌else◌}
use Rattle.std.specs.List.{concat}
use Rattle.scip_records.specs.Range.{RangeNumbers}
use Rattle.scip_records.specs.declared.records.Index.{Index}
use Rattle.scip_records.specs.declared.records.Metadata.{Metadata}
use Rattle.scip_records.specs.declared.records.ToolInfo.{ToolInfo}
use Rattle.scip_records.specs.declared.records.Document.{Document}
use Rattle.scip_records.specs.declared.records.Occurrence.{Occurrence}
use Rattle.scip_records.specs.declared.records.SymbolInformation.{SymbolInformation}
use Rattle.scip_records.specs.declared.details.Signature.{Signature}
use Rattle.scip_wire.specs.Fields.{Payload, Varint, Fixed64, Delimited, Fixed32, Field}

-- The shortest varint of a number of at most `further + 1` groups (Encoding, Base 128 Varints):
-- seven bits a byte, the lowest first, the top bit set on all but the last.
unfoldable pub varint_of_groups : ℕ → ℕ → List ℕ
varint_of_groups zero n = n ∷ []
varint_of_groups (suc further) n =
    if nat_lt n 128 then n ∷ [] else ((n % 128 + 128) ∷ varint_of_groups further (n / 128))

-- of a number below 2 ^ 64: ten groups at most
abbrev pub varint : ℕ → List ℕ
varint n = varint_of_groups 9 n

-- a field's record (Encoding, Message Structure): its tag, which holds its number and the wire type, then what it holds
abbrev pub record_bytes : ℕ → Payload → List ℕ
record_bytes number (Varint value) = varint (8 * number) ++ varint value
record_bytes number (Fixed64 bytes) = varint (8 * number + 1) ++ bytes
record_bytes number (Delimited bytes) = varint (8 * number + 2) ++ (varint (length bytes) ++ bytes)
record_bytes number (Fixed32 bytes) = varint (8 * number + 5) ++ bytes

abbrev pub field_bytes : Field → List ℕ
field_bytes f = record_bytes f.number f.payload

abbrev pub bytes_of : List Field → List ℕ
bytes_of fields = flat_map field_bytes fields

-- a signed number in 64 bits, two's complement (Encoding, Signed Integers)
abbrev pub in_64_bits : ℤ → ℕ
in_64_bits (pos n) = n
in_64_bits (negsuc n) = 2 ^ 64 - 1 - n

-- ---- fields by kind: `k` is the field's number

abbrev pub bytes_field : ℕ → List ℕ → Field
bytes_field k bytes = record { number = k; payload = Delimited bytes }

-- a number: absent if it is 0
abbrev pub number_fields : ℕ → ℕ → List Field
number_fields k zero = []
number_fields k (suc n) = record { number = k; payload = Varint (suc n) } ∷ []

-- an int32 or an enum
abbrev pub int_fields : ℕ → ℤ → List Field
int_fields k z = number_fields k (in_64_bits z)

-- a text: absent if it is empty
abbrev pub text_fields : ℕ → List ℕ → List Field
text_fields k [] = []
text_fields k (b ∷ bs) = bytes_field k (b ∷ bs) ∷ []

-- a repeated text: empty ones too
abbrev pub repeated_text_fields : ℕ → List (List ℕ) → List Field
repeated_text_fields k texts = map (bytes_field k) texts

-- a repeated message, each by its own fields
abbrev pub repeated_message_fields : {A : Type 0} → ℕ → (A → List Field) → List A → List Field
repeated_message_fields k fields items = map (λ item. bytes_field k (bytes_of (fields item))) items

-- a message that may be absent
abbrev pub optional_message_fields : {A : Type 0} → ℕ → (A → List Field) → Option A → List Field
optional_message_fields k fields None = []
optional_message_fields k fields (Some item) = bytes_field k (bytes_of (fields item)) ∷ []

-- ---- the messages of `scip.proto`

-- `Occurrence.range`: three numbers if and only if both ends are on one line
abbrev pub range_numbers : RangeNumbers → List ℕ
range_numbers r =
    if nat_eq r.start_line r.end_line
    then r.start_line ∷ r.start_column ∷ r.end_column ∷ []
    else (r.start_line ∷ r.start_column ∷ r.end_line ∷ r.end_column ∷ [])

-- its numbers, packed
abbrev pub range_field : ℕ → RangeNumbers → Field
range_field k r = bytes_field k (flat_map varint (range_numbers r))

-- a range that may be absent
abbrev pub optional_range_fields : ℕ → Option RangeNumbers → List Field
optional_range_fields k None = []
optional_range_fields k (Some r) = range_field k r ∷ []

abbrev pub occurrence_fields : Occurrence → List Field
occurrence_fields o =
    range_field 1 o.range ∷ []
    ++ text_fields 2 o.symbol
    ++ int_fields 3 o.symbol_roles
    ++ optional_range_fields 7 o.enclosing_range

-- a signature is a document with a language and a text
abbrev pub signature_fields : Signature → List Field
signature_fields s = text_fields 4 s.language ++ text_fields 5 s.text

-- its bytes are absent where they are empty
abbrev pub info_fields : SymbolInformation → List Field
info_fields i =
    text_fields 1 i.symbol
    ++ repeated_text_fields 3 i.documentation
    ++ int_fields 5 i.details.kind
    ++ text_fields 6 i.display_name
    ++ text_fields 7 (bytes_of (signature_fields i.details.signature))
    ++ text_fields 8 i.details.enclosing_symbol

abbrev pub document_fields : Document → List Field
document_fields d =
    text_fields 1 d.relative_path
    ++ repeated_message_fields 2 occurrence_fields d.occurrences
    ++ repeated_message_fields 3 info_fields d.symbols
    ++ text_fields 4 d.language
    ++ int_fields 6 d.position_encoding

abbrev pub tool_info_fields : ToolInfo → List Field
tool_info_fields t =
    text_fields 1 t.name
    ++ text_fields 2 t.version
    ++ repeated_text_fields 3 t.arguments

abbrev pub metadata_fields : Metadata → List Field
metadata_fields m =
    int_fields 1 m.version
    ++ optional_message_fields 2 tool_info_fields m.tool_info
    ++ text_fields 3 m.project_root
    ++ int_fields 4 m.text_document_encoding

abbrev pub index_fields : Index → List Field
index_fields i =
    optional_message_fields 1 metadata_fields i.metadata
    ++ repeated_message_fields 2 document_fields i.documents
    ++ repeated_message_fields 3 info_fields i.external_symbols

-- the most bytes that an index may have: the Protocol Buffers libraries' own limit
abbrev pub max_index_len : ℕ
max_index_len = 2147483647

-- the spelling of an index
abbrev pub spelling_of : Index → List ℕ
spelling_of i = bytes_of (index_fields i)

-- ---- an index in pieces

-- a document's record, as it is in an index
abbrev pub document_record : Document → List ℕ
document_record d = field_bytes (bytes_field 2 (bytes_of (document_fields d)))

-- the metadata's record, those of the documents, and those of the external entries, one after another
abbrev pub joined_pieces : Option Metadata → (documents : List (List ℕ)) → List SymbolInformation → List ℕ
joined_pieces metadata documents external_symbols =
    bytes_of (optional_message_fields 1 metadata_fields metadata) ++ concat documents
    ++ bytes_of (repeated_message_fields 3 info_fields external_symbols)
