-- Why bytes decode to no index: the first record, in order of bytes, at which no reading goes on. What is in front of
-- it decodes. The fault's offset is that of the record's first byte in the whole input, which is called `start` here.
use Rattle.std.specs.Prelude.{◌≡◌, ◌⊎◌, ℕ, suc, ℤ, ◌+◌, ◌-◌, ◌*◌, ◌^◌, ◌<◌, ◌≤◌, List, [], ◌∷◌, ◌++◌, length, Option}
use Rattle.std.specs.Prelude.{Some, None}
use Rattle.std.specs.Str.{IsUtf8}
use Rattle.scip_records.specs.declared.records.Index.{Index}
use Rattle.scip_records.specs.declared.records.Metadata.{Metadata}
use Rattle.scip_records.specs.declared.records.ToolInfo.{ToolInfo}
use Rattle.scip_records.specs.declared.records.Document.{Document}
use Rattle.scip_records.specs.declared.records.SymbolInformation.{SymbolInformation}
use Rattle.scip_wire.specs.Fields.{Payload, Delimited, Field, IsVarint, IsField, max_varint_len, max_field_number}
use Rattle.scip_wire.specs.Decodes.{ArePacked, AreNoRange, HoldsOccurrence}
use Rattle.scip_wire.specs.Decodes.{IsInfo, IsToolInfo, IsMetadata, IsDocument, Decodes}
use Rattle.scip_wire.specs.declared.wire_fault.WireFault.{WireFault}
use Rattle.scip_wire.specs.declared.wire_fault.WireFault.TheVariants.{Truncated, Varint, FieldZero, Group, WireType}
use Rattle.scip_wire.specs.declared.wire_fault.WireFault.TheVariants.{Repeated, Utf8, BadRange}

-- ---- a record by itself

-- No varint of at most `limit` bytes: they end before its last one; it goes on after so many; or what is above the
-- first seven bits has more than 57, which makes more than 64 in all (Encoding, Base 128 Varints). With ten bytes at
-- most, each below 256, these two are a tenth byte over 1.
pub data NoVarint (start : ℕ) : (limit : ℕ) (bytes : List ℕ) → WireFault → Type 0 where
  cut_off : {limit : ℕ} → NoVarint start (suc limit) [] (Truncated start)
  too_long : {bytes : List ℕ} → NoVarint start 0 bytes (Varint start)
  too_large : {limit byte high : ℕ} {bytes rest : List ℕ} → 128 ≤ byte → IsVarint limit bytes high rest → 2 ^ 57 ≤ high
      → NoVarint start (suc limit) (byte ∷ bytes) (Varint start)
  behind : {limit byte : ℕ} {bytes : List ℕ} {fault : WireFault} → 128 ≤ byte → NoVarint start limit bytes fault
      → NoVarint start (suc limit) (byte ∷ bytes) fault

-- No payload of a wire type: it runs past the end, or its varint or length is none; there is none of the types 3, 4, 6
-- and 7 (Encoding, Message Structure).
pub data NoPayload (start : ℕ) : (type : ℕ) (bytes : List ℕ) → WireFault → Type 0 where
  value : {bytes : List ℕ} {fault : WireFault} → NoVarint start max_varint_len bytes fault
      → NoPayload start 0 bytes fault
  of_eight_bytes : {bytes : List ℕ} → length bytes < 8 → NoPayload start 1 bytes (Truncated start)
  size : {bytes : List ℕ} {fault : WireFault} → NoVarint start max_varint_len bytes fault
      → NoPayload start 2 bytes fault
  of_its_size : {bytes rest : List ℕ} {size : ℕ} → IsVarint max_varint_len bytes size rest → length rest < size
      → NoPayload start 2 bytes (Truncated start)
  of_four_bytes : {bytes : List ℕ} → length bytes < 4 → NoPayload start 5 bytes (Truncated start)
  group : {type : ℕ} {bytes : List ℕ} → (type ≡ 3) ⊎ (type ≡ 4) → NoPayload start type bytes (Group start)
  other_type : {type : ℕ} {bytes : List ℕ} → (type ≡ 6) ⊎ (type ≡ 7) → NoPayload start type bytes (WireType start)

-- No record: its tag is no varint, or is 2 ^ 32 or more; its field's number is 0; or it has no payload.
pub data NoField (start : ℕ) (bytes : List ℕ) : WireFault → Type 0 where
  tag : {fault : WireFault} → NoVarint start max_varint_len bytes fault → NoField start bytes fault
  large_tag : {rest : List ℕ} {tag : ℕ} → IsVarint max_varint_len bytes tag rest → 2 ^ 32 ≤ tag
      → NoField start bytes (Varint start)
  number_zero : {rest : List ℕ} {tag : ℕ} → IsVarint max_varint_len bytes tag rest → tag < 8
      → NoField start bytes (FieldZero start)
  payload : {rest : List ℕ} {number type : ℕ} {fault : WireFault}
      → IsVarint max_varint_len bytes (8 * number + type) rest → 0 < number → number ≤ max_field_number
      → NoPayload start type rest fault → NoField start bytes fault

-- ---- what a record holds

-- No message: the first record at which no reading goes on. The bytes in front of it are a message; and the record
-- can't be read, or what it holds can't, after this message. The bytes end at `end` in the input, and the record at
-- its own.
pub data NoMessage {A : Type 0} (IsMessage : List ℕ → A → Type 0)
    (Faulty : (earlier : A) (start end : ℕ) → Field → WireFault → Type 0) (end : ℕ) (bytes : List ℕ)
    : WireFault → Type 0 where
  record_itself : (front back : List ℕ) (earlier : A) {fault : WireFault} → bytes ≡ front ++ back
      → IsMessage front earlier → 0 < length back → NoField (end - length back) back fault
      → NoMessage IsMessage Faulty end bytes fault
  what_it_holds : (front back : List ℕ) (earlier : A) {rest : List ℕ} {field : Field} {fault : WireFault}
      → bytes ≡ front ++ back
      → IsMessage front earlier → IsField back field rest
      → Faulty earlier (end - length back) (end - length rest) field fault
      → NoMessage IsMessage Faulty end bytes fault

-- a text that isn't UTF-8
pub data NoText (start : ℕ) : Payload → WireFault → Type 0 where
  not_utf8 : {bytes : List ℕ} → ¬ (IsUtf8 bytes) → NoText start (Delimited bytes) (Utf8 start)

-- the first number of a packed range at which no reading goes on: a fault of the range's record
pub data NoNumbers (start : ℕ) : Payload → WireFault → Type 0 where
  packed : {bytes front back numbers : List ℕ} {fault : WireFault} → bytes ≡ front ++ back → ArePacked front numbers
      → 0 < length back → NoVarint start max_varint_len back fault → NoNumbers start (Delimited bytes) fault

-- a message inside, of which `Refused` says why there is none
pub data NoInner (Refused : (end : ℕ) → List ℕ → WireFault → Type 0) (end : ℕ) : Payload → WireFault → Type 0 where
  inside : {bytes : List ℕ} {fault : WireFault} → Refused end bytes fault → NoInner Refused end (Delimited bytes) fault

-- a message that comes at most once: one was there before, whatever this one holds
pub data NoOnly {A : Type 0} (Refused : (end : ℕ) → List ℕ → WireFault → Type 0) (start end : ℕ)
    : (earlier : Option A) → Payload → WireFault → Type 0 where
  again : {earlier : A} {bytes : List ℕ} → NoOnly Refused start end (Some earlier) (Delimited bytes) (Repeated start)
  inside : {bytes : List ℕ} {fault : WireFault} → Refused end bytes fault
      → NoOnly Refused start end None (Delimited bytes) fault

-- ---- the messages of `scip.proto`, by the numbers of their fields; no detail refuses anything

pub data NoInfoField (earlier : SymbolInformation) (start end : ℕ) : Field → WireFault → Type 0 where
  text : {number : ℕ} {payload : Payload} {fault : WireFault}
      → (number ≡ 1) ⊎ ((number ≡ 3) ⊎ (number ≡ 6)) → NoText start payload fault
      → NoInfoField earlier start end (record { number = number; payload = payload }) fault

abbrev pub NoInfo : (end : ℕ) → List ℕ → WireFault → Type 0
NoInfo = NoMessage IsInfo NoInfoField

pub data NoToolInfoField (earlier : ToolInfo) (start end : ℕ) : Field → WireFault → Type 0 where
  text : {number : ℕ} {payload : Payload} {fault : WireFault}
      → (number ≡ 1) ⊎ ((number ≡ 2) ⊎ (number ≡ 3)) → NoText start payload fault
      → NoToolInfoField earlier start end (record { number = number; payload = payload }) fault

abbrev pub NoToolInfo : (end : ℕ) → List ℕ → WireFault → Type 0
NoToolInfo = NoMessage IsToolInfo NoToolInfoField

pub data NoMetadataField (earlier : Metadata) (start end : ℕ) : Field → WireFault → Type 0 where
  tool_info : {payload : Payload} {fault : WireFault} → NoOnly NoToolInfo start end earlier.tool_info payload fault
      → NoMetadataField earlier start end (record { number = 2; payload = payload }) fault
  project_root : {payload : Payload} {fault : WireFault} → NoText start payload fault
      → NoMetadataField earlier start end (record { number = 3; payload = payload }) fault

abbrev pub NoMetadata : (end : ℕ) → List ℕ → WireFault → Type 0
NoMetadata = NoMessage IsMetadata NoMetadataField

-- an occurrence's records: the numbers of its range, its symbol, its roles and the numbers of its enclosing range
abbrev pub OccurrenceRecords : Type 0
OccurrenceRecords = List ℕ × (List ℕ × (ℤ × List ℕ))

abbrev pub HoldsRecords : List ℕ → OccurrenceRecords → Type 0
HoldsRecords bytes records = HoldsOccurrence bytes records.0 records.1.0 records.1.1.0 records.1.1.1

pub data NoOccurrenceField (earlier : OccurrenceRecords) (start end : ℕ) : Field → WireFault → Type 0 where
  range : {payload : Payload} {fault : WireFault} → NoNumbers start payload fault
      → NoOccurrenceField earlier start end (record { number = 1; payload = payload }) fault
  symbol : {payload : Payload} {fault : WireFault} → NoText start payload fault
      → NoOccurrenceField earlier start end (record { number = 2; payload = payload }) fault

-- Its records are looked at first. If all are read, there are numbers of its range, but not those of a range.
pub data NoOccurrence (start end : ℕ) : Payload → WireFault → Type 0 where
  inside : {bytes : List ℕ} {fault : WireFault} → NoMessage HoldsRecords NoOccurrenceField end bytes fault
      → NoOccurrence start end (Delimited bytes) fault
  bad_range : {bytes numbers symbol around : List ℕ} {roles : ℤ} → HoldsOccurrence bytes numbers symbol roles around
      → 0 < length numbers → AreNoRange numbers → NoOccurrence start end (Delimited bytes) (BadRange start)

pub data NoDocumentField (earlier : Document) (start end : ℕ) : Field → WireFault → Type 0 where
  text : {number : ℕ} {payload : Payload} {fault : WireFault} → (number ≡ 1) ⊎ (number ≡ 4) → NoText start payload fault
      → NoDocumentField earlier start end (record { number = number; payload = payload }) fault
  occurrence : {payload : Payload} {fault : WireFault} → NoOccurrence start end payload fault
      → NoDocumentField earlier start end (record { number = 2; payload = payload }) fault
  symbols : {payload : Payload} {fault : WireFault} → NoInner NoInfo end payload fault
      → NoDocumentField earlier start end (record { number = 3; payload = payload }) fault

abbrev pub NoDocument : (end : ℕ) → List ℕ → WireFault → Type 0
NoDocument = NoMessage IsDocument NoDocumentField

pub data NoIndexField (earlier : Index) (start end : ℕ) : Field → WireFault → Type 0 where
  metadata : {payload : Payload} {fault : WireFault} → NoOnly NoMetadata start end earlier.metadata payload fault
      → NoIndexField earlier start end (record { number = 1; payload = payload }) fault
  documents : {payload : Payload} {fault : WireFault} → NoInner NoDocument end payload fault
      → NoIndexField earlier start end (record { number = 2; payload = payload }) fault
  external_symbols : {payload : Payload} {fault : WireFault} → NoInner NoInfo end payload fault
      → NoIndexField earlier start end (record { number = 3; payload = payload }) fault

-- the bytes decode to no index, for this fault
abbrev pub NoIndex : List ℕ → WireFault → Type 0
NoIndex bytes = NoMessage Decodes NoIndexField (length bytes) bytes
