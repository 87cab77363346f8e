-- The fault that the reader names, as functions on lists, where it refuses. Where it reads, they say Memory.
use Rattle.std.specs.Prelude.{ℕ, zero, suc, ◌-◌, ◌%◌, ◌^◌, ◌||◌, cond, nat_eq, nat_lt, List, [], ◌∷◌, length}
use Rattle.std.specs.Prelude.{Option, Some, None}
use Rattle.scip_records.specs.declared.records.Index.{Index}
use Rattle.scip_records.specs.declared.records.Metadata.{Metadata}
use Rattle.scip_records.specs.declared.records.Document.{Document}
use Rattle.scip_wire.specs.declared.read.occurrence.OccurrenceParts.{OccurrenceParts}
use Rattle.scip_wire.specs.Fields
use Rattle.scip_wire.specs.Fields.{Payload, Fixed64, Delimited, Fixed32, Field, max_varint_len}
use Rattle.scip_wire.specs.Reading.{varint_at, field_at, info_step, no_info, tool_info_step}
use Rattle.scip_wire.specs.Reading.{no_tool_info}
use Rattle.scip_wire.specs.Reading.{metadata_step, no_metadata, packed_step, occurrence_step, no_parts, parts_at}
use Rattle.scip_wire.specs.Reading.{document_step, no_document, index_step, no_index}
use Rattle.scip_wire.specs.declared.wire_fault.WireFault.{WireFault}
use Rattle.scip_wire.specs.declared.wire_fault.WireFault.TheVariants.{Truncated, Varint, FieldZero, Group, WireType}
use Rattle.scip_wire.specs.declared.wire_fault.WireFault.TheVariants.{Repeated, Utf8, BadRange, Memory}

-- the fault of a reading that gives nothing, or what is said of what it gives
abbrev pub blame : {A : Type 0} → Option A → WireFault → (A → WireFault) → WireFault
blame None fault next = fault
blame (Some x) fault next = next x

-- of a varint of at most `limit` bytes
unfoldable pub varint_fault : (start limit : ℕ) → List ℕ → WireFault
varint_fault start zero bytes = Varint start
varint_fault start (suc limit) [] = Truncated start
varint_fault start (suc limit) (byte ∷ bytes) =
    cond (nat_lt byte 128) Memory
    (blame (varint_at limit bytes) (varint_fault start limit bytes) (λ high. Varint start))

unfoldable pub payload_fault : (start type : ℕ) → List ℕ → WireFault
payload_fault start type bytes =
    cond (nat_eq type 0) (varint_fault start max_varint_len bytes)
    (cond (nat_eq type 1) (Truncated start)
    (cond (nat_eq type 2)
    (blame (varint_at max_varint_len bytes) (varint_fault start max_varint_len bytes) (λ size. Truncated start))
    (cond (nat_eq type 5) (Truncated start)
    (cond (nat_eq type 3 || nat_eq type 4) (Group start) (WireType start)))))

unfoldable pub field_fault : (start : ℕ) → List ℕ → WireFault
field_fault start bytes =
    blame (varint_at max_varint_len bytes) (varint_fault start max_varint_len bytes)
    (λ tag. cond (nat_lt tag.0 (2 ^ 32))
    (cond (nat_lt tag.0 8) (FieldZero start) (payload_fault start (tag.0 % 8) tag.1))
    (Varint start))

-- ---- over the items that a reader finds in bytes, which end at `end`, up to the first at which it doesn't go on

unfoldable pub fold_fault_in : {S A : Type 0} → (read : List ℕ → Option (A × List ℕ))
    → (read_fault : (start : ℕ) → List ℕ → WireFault) → (step : S → A → Option S)
    → (step_fault : S → (start end : ℕ) → A → WireFault) → (end bound : ℕ) → List ℕ → S → WireFault
fold_fault_in read read_fault step step_fault end zero bytes s = Memory
fold_fault_in read read_fault step step_fault end (suc bound) [] s = Memory
fold_fault_in read read_fault step step_fault end (suc bound) (byte ∷ bytes) s =
    blame (read (byte ∷ bytes)) (read_fault (end - length (byte ∷ bytes)) (byte ∷ bytes))
    (λ item. blame (step s item.0) (step_fault s (end - length (byte ∷ bytes)) (end - length item.1) item.0)
    (fold_fault_in read read_fault step step_fault end bound item.1))

unfoldable pub fold_fault : {S A : Type 0} → (read : List ℕ → Option (A × List ℕ))
    → (read_fault : (start : ℕ) → List ℕ → WireFault) → (step : S → A → Option S)
    → (step_fault : S → (start end : ℕ) → A → WireFault) → (end : ℕ) → List ℕ → S → WireFault
fold_fault read read_fault step step_fault end bytes s =
    fold_fault_in read read_fault step step_fault end (length bytes) bytes s

-- of a message, which is made of its fields
abbrev pub message_fault : {S : Type 0} → (step : S → Field → Option S)
    → (step_fault : S → (start end : ℕ) → Field → WireFault) → (end : ℕ) → List ℕ → S → WireFault
message_fault = fold_fault field_at field_fault

-- ---- the messages

-- of a payload that may hold a message
abbrev pub inner_fault : ((end : ℕ) → List ℕ → WireFault) → (end : ℕ) → Payload → WireFault
inner_fault faults end (Delimited bytes) = faults end bytes
inner_fault faults end (Fields.Varint _) = Memory
inner_fault faults end (Fixed64 _) = Memory
inner_fault faults end (Fixed32 _) = Memory

abbrev pub only_fault : {A : Type 0} → ((end : ℕ) → List ℕ → WireFault) → (start end : ℕ) → Option A → Payload
    → WireFault
only_fault faults start end None payload = inner_fault faults end payload
only_fault faults start end (Some earlier) payload = Repeated start

-- where only a text can be at fault
abbrev pub text_fault : {S : Type 0} → S → (start end : ℕ) → Field → WireFault
text_fault s start end field = Utf8 start

unfoldable pub info_fault : (end : ℕ) → List ℕ → WireFault
info_fault end bytes = message_fault info_step text_fault end bytes no_info

unfoldable pub tool_info_fault : (end : ℕ) → List ℕ → WireFault
tool_info_fault end bytes = message_fault tool_info_step text_fault end bytes no_tool_info

unfoldable pub metadata_step_fault : Metadata → (start end : ℕ) → Field → WireFault
metadata_step_fault m start end field =
    cond (nat_eq field.number 2) (only_fault tool_info_fault start end m.tool_info field.payload) (Utf8 start)

unfoldable pub metadata_fault : (end : ℕ) → List ℕ → WireFault
metadata_fault end bytes = message_fault metadata_step metadata_step_fault end bytes no_metadata

-- of the numbers of a packed range
abbrev pub no_step_fault : List ℕ → (start end value : ℕ) → WireFault
no_step_fault numbers start end value = Memory

unfoldable pub packed_fault : (start : ℕ) → List ℕ → List ℕ → WireFault
packed_fault start bytes numbers =
    fold_fault (varint_at max_varint_len) (λ _. varint_fault start max_varint_len) packed_step no_step_fault 0 bytes
    numbers

unfoldable pub occurrence_step_fault : OccurrenceParts → (start end : ℕ) → Field → WireFault
occurrence_step_fault o start end field =
    cond (nat_eq field.number 1) (inner_fault (λ _ bytes. packed_fault start bytes o.numbers) end field.payload)
    (Utf8 start)

unfoldable pub parts_fault : (end : ℕ) → List ℕ → WireFault
parts_fault end bytes = message_fault occurrence_step occurrence_step_fault end bytes no_parts

unfoldable pub occurrence_fault : (start end : ℕ) → List ℕ → WireFault
occurrence_fault start end bytes = blame (parts_at bytes) (parts_fault end bytes) (λ parts. BadRange start)

unfoldable pub document_step_fault : Document → (start end : ℕ) → Field → WireFault
document_step_fault d start end field =
    cond (nat_eq field.number 2) (inner_fault (occurrence_fault start) end field.payload)
    (cond (nat_eq field.number 3) (inner_fault info_fault end field.payload) (Utf8 start))

unfoldable pub document_fault : (end : ℕ) → List ℕ → WireFault
document_fault end bytes = message_fault document_step document_step_fault end bytes no_document

unfoldable pub index_step_fault : Index → (start end : ℕ) → Field → WireFault
index_step_fault i start end field =
    cond (nat_eq field.number 1) (only_fault metadata_fault start end i.metadata field.payload)
    (cond (nat_eq field.number 2) (inner_fault document_fault end field.payload)
    (inner_fault info_fault end field.payload))

unfoldable pub index_fault : List ℕ → WireFault
index_fault bytes = message_fault index_step index_step_fault (length bytes) bytes no_index
