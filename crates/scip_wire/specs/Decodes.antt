-- The index that bytes decode to, by field lists (Protocol Buffers encoding; field numbers of
-- `scip.proto`). Fields come in any order; the last of a singular number or text wins, and repeated
-- ones are joined in order. Fields that no line names are left out, and so are those that a line
-- names but that have another wire type.
use Rattle.std.specs.Prelude.{◌≡◌, ℕ, ℤ, pos, ◌%◌, ◌^◌, Bool, true, false, cond, nat_eq, List, [], ◌∷◌, ◌++◌, Option}
use Rattle.std.specs.Prelude.{Some, None}
use Rattle.std.specs.Int.{w32, cast_signed}
use Rattle.std.specs.Str.{IsUtf8}
use Rattle.scip_records.specs.Range.{RangeNumbers, IsRange}
use Rattle.scip_records.specs.Details.{no_signature}
use Rattle.scip_records.specs.declared.details.Signature.{Signature}
use Rattle.scip_records.specs.declared.records.Index.{Index}
use Rattle.scip_records.specs.declared.records.Metadata.{Metadata}
use Rattle.scip_records.specs.declared.records.ToolInfo.{ToolInfo}
use Rattle.scip_records.specs.declared.records.Document.{Document}
use Rattle.scip_records.specs.declared.records.Occurrence.{Occurrence}
use Rattle.scip_records.specs.declared.records.SymbolInformation.{SymbolInformation}
use Rattle.scip_wire.specs.Fields.{Payload, Varint, Delimited, Field, IsVarint, HasFields, max_varint_len}

-- ---- the values of a field

-- the payloads of the records with this number, in order
abbrev pub payloads : ℕ → List Field → List Payload
payloads number [] = []
payloads number (field ∷ fields) =
    cond (nat_eq field.number number) (field.payload ∷ payloads number fields) (payloads number fields)

-- the values that payloads give, joined in order, where `Gives` says which values one payload gives
pub data Joined {A : Type 0} (Gives : Payload → List A → Type 0) : List Payload → List A → Type 0 where
  none : Joined Gives [] []
  next : {payload : Payload} {values : List A} {others : List Payload} {more : List A}
      → Gives payload values → Joined Gives others more → Joined Gives (payload ∷ others) (values ++ more)

-- the last, or what stands for an absent one
abbrev pub last_or : {A : Type 0} → A → List A → A
last_or absent [] = absent
last_or absent (x ∷ xs) = last_or x xs

-- the last of the values
pub record IsLast {A : Type 0} (absent : A) (Values : List A → Type 0) (value : A) : Type 0 where
  pub values : List A
  pub are_values : Values values
  pub is_last : value ≡ last_or absent values

-- the only one of the values, or None if there is none
pub data IsOnly {A : Type 0} (Values : List A → Type 0) : Option A → Type 0 where
  absent : Values [] → IsOnly Values None
  only : {value : A} → Values (value ∷ []) → IsOnly Values (Some value)

abbrev pub is_varint : Payload → Bool
is_varint (Varint _) = true
is_varint _ = false

abbrev pub is_delimited : Payload → Bool
is_delimited (Delimited _) = true
is_delimited _ = false

-- a text is UTF-8, also one that a later one replaces
pub data GivesText : Payload → List (List ℕ) → Type 0 where
  text : {bytes : List ℕ} → IsUtf8 bytes → GivesText (Delimited bytes) (bytes ∷ [])
  other_type : {payload : Payload} → is_delimited payload ≡ false → GivesText payload []

-- an int32 or an enum is the low 32 bits of its varint, as a signed number
pub data GivesNumber : Payload → List ℤ → Type 0 where
  signed : {value : ℕ} → GivesNumber (Varint value) (cast_signed w32 (value % 2 ^ 32) ∷ [])
  other_type : {payload : Payload} → is_varint payload ≡ false → GivesNumber payload []

-- a message is what its bytes decode to, by its own definition
pub data GivesMessage {A : Type 0} (IsMessage : List ℕ → A → Type 0) : Payload → List A → Type 0 where
  message : {bytes : List ℕ} {value : A} → IsMessage bytes value → GivesMessage IsMessage (Delimited bytes) (value ∷ [])
  other_type : {payload : Payload} → is_delimited payload ≡ false → GivesMessage IsMessage payload []

-- A detail is what a payload gives otherwise; one that can't be read is as if it weren't there.
pub data GivesDetail {A : Type 0} (Gives : Payload → List A → Type 0) (payload : Payload) : List A → Type 0 where
  readable : {values : List A} → Gives payload values → GivesDetail Gives payload values
  unreadable : ((values : List A) → ¬ (Gives payload values)) → GivesDetail Gives payload []

-- a text, or a text of each record with this number
abbrev pub Text : ℕ → List Field → List ℕ → Type 0
Text number fields = IsLast [] (Joined GivesText (payloads number fields))

abbrev pub Texts : ℕ → List Field → List (List ℕ) → Type 0
Texts number fields = Joined GivesText (payloads number fields)

-- an int32 or an enum
abbrev pub Number : ℕ → List Field → ℤ → Type 0
Number number fields = IsLast (pos 0) (Joined GivesNumber (payloads number fields))

-- a message at most once, or a message of each record with this number
abbrev pub OneMessage : {A : Type 0} → (List ℕ → A → Type 0) → ℕ → List Field → Option A → Type 0
OneMessage IsMessage number fields = IsOnly (Joined (GivesMessage IsMessage) (payloads number fields))

abbrev pub Messages : {A : Type 0} → (List ℕ → A → Type 0) → ℕ → List Field → List A → Type 0
Messages IsMessage number fields = Joined (GivesMessage IsMessage) (payloads number fields)

-- the last of the details with this number that can be read
abbrev pub LastDetail : {A : Type 0} → (Payload → List A → Type 0) → A → ℕ → List Field → A → Type 0
LastDetail Gives missing number fields = IsLast missing (Joined (GivesDetail Gives) (payloads number fields))

-- ---- the messages of `scip.proto`

-- a document, of which the language and the text are the signature
pub record IsSignature (bytes : List ℕ) (signature : Signature) : Type 0 where
  pub fields : List Field
  pub has_fields : HasFields bytes fields
  pub language : Text 4 fields signature.language
  pub text : Text 5 fields signature.text

pub record IsInfo (bytes : List ℕ) (info : SymbolInformation) : Type 0 where
  pub fields : List Field
  pub has_fields : HasFields bytes fields
  pub symbol : Text 1 fields info.symbol
  pub documentation : Texts 3 fields info.documentation
  pub kind : Number 5 fields info.details.kind
  pub display_name : Text 6 fields info.display_name
  pub signature : LastDetail (GivesMessage IsSignature) no_signature 7 fields info.details.signature
  pub enclosing_symbol : LastDetail GivesText [] 8 fields info.details.enclosing_symbol

pub record IsToolInfo (bytes : List ℕ) (tool_info : ToolInfo) : Type 0 where
  pub fields : List Field
  pub has_fields : HasFields bytes fields
  pub name : Text 1 fields tool_info.name
  pub version : Text 2 fields tool_info.version
  pub arguments : Texts 3 fields tool_info.arguments

pub record IsMetadata (bytes : List ℕ) (metadata : Metadata) : Type 0 where
  pub fields : List Field
  pub has_fields : HasFields bytes fields
  pub version : Number 1 fields metadata.version
  pub tool_info : OneMessage IsToolInfo 2 fields metadata.tool_info
  pub project_root : Text 3 fields metadata.project_root
  pub text_document_encoding : Number 4 fields metadata.text_document_encoding

-- an int32 is the low 32 bits of its varint
abbrev pub low_32_bits : ℕ → ℕ
low_32_bits value = value % 2 ^ 32

-- the int32s that bytes hold, one varint after another (Encoding, Packed Repeated Fields)
pub data ArePacked : List ℕ → List ℕ → Type 0 where
  none : ArePacked [] []
  next : {bytes rest : List ℕ} {value : ℕ} {numbers : List ℕ}
      → IsVarint max_varint_len bytes value rest → ArePacked rest numbers
      → ArePacked bytes (low_32_bits value ∷ numbers)

-- repeated int32s, packed or not
pub data GivesNumbers : Payload → List ℕ → Type 0 where
  one : {value : ℕ} → GivesNumbers (Varint value) (low_32_bits value ∷ [])
  packed : {bytes numbers : List ℕ} → ArePacked bytes numbers → GivesNumbers (Delimited bytes) numbers
  other_type : {payload : Payload} → is_varint payload ≡ false → is_delimited payload ≡ false → GivesNumbers payload []

-- `Occurrence.range`: [line, column, end column] on one line, or [line, column, end line, end column]
pub data AreRangeNumbers : List ℕ → RangeNumbers → Type 0 where
  on_one_line : {line column end_column : ℕ}
      → AreRangeNumbers (line ∷ column ∷ end_column ∷ [])
      (record { start_line = line; start_column = column; end_line = line; end_column = end_column })
  over_lines : {line column end_line end_column : ℕ}
      → AreRangeNumbers (line ∷ column ∷ end_line ∷ end_column ∷ [])
      (record { start_line = line; start_column = column; end_line = end_line; end_column = end_column })

-- numbers that aren't those of a range, none of them negative as an int32
abbrev pub AreNoRange : List ℕ → Type 0
AreNoRange numbers = (range : RangeNumbers) → AreRangeNumbers numbers range → ¬ (IsRange range)

-- `Occurrence.enclosing_range`: the range of these numbers, or none if they aren't those of one
pub data AreEnclosing : List ℕ → Option RangeNumbers → Type 0 where
  absent : {numbers : List ℕ} → AreNoRange numbers → AreEnclosing numbers None
  enclosing : {numbers : List ℕ} {range : RangeNumbers} → AreRangeNumbers numbers range → IsRange range
      → AreEnclosing numbers (Some range)

-- what an occurrence's bytes hold: the numbers of its range, its symbol, its roles and the numbers of its enclosing
-- range
pub record HoldsOccurrence (bytes numbers symbol : List ℕ) (roles : ℤ) (around : List ℕ) : Type 0 where
  pub fields : List Field
  pub has_fields : HasFields bytes fields
  pub range : Joined GivesNumbers (payloads 1 fields) numbers
  pub symbol_text : Text 2 fields symbol
  pub symbol_roles : Number 3 fields roles
  pub enclosing_range : Joined (GivesDetail GivesNumbers) (payloads 7 fields) around

-- An occurrence has three or four numbers, none of them negative as an int32. One without range numbers is left out.
pub data GivesOccurrence : Payload → List Occurrence → Type 0 where
  occurrence : {bytes numbers around : List ℕ} {occurrence : Occurrence}
      → HoldsOccurrence bytes numbers occurrence.symbol occurrence.symbol_roles around
      → AreRangeNumbers numbers occurrence.range → IsRange occurrence.range
      → AreEnclosing around occurrence.enclosing_range
      → GivesOccurrence (Delimited bytes) (occurrence ∷ [])
  without_range : {bytes symbol around : List ℕ} {roles : ℤ} → HoldsOccurrence bytes [] symbol roles around
      → GivesOccurrence (Delimited bytes) []
  other_type : {payload : Payload} → is_delimited payload ≡ false → GivesOccurrence payload []

pub record IsDocument (bytes : List ℕ) (document : Document) : Type 0 where
  pub fields : List Field
  pub has_fields : HasFields bytes fields
  pub relative_path : Text 1 fields document.relative_path
  pub occurrences : Joined GivesOccurrence (payloads 2 fields) document.occurrences
  pub symbols : Messages IsInfo 3 fields document.symbols
  pub language : Text 4 fields document.language
  pub position_encoding : Number 6 fields document.position_encoding

-- the bytes decode to the index
pub record Decodes (bytes : List ℕ) (index : Index) : Type 0 where
  pub fields : List Field
  pub has_fields : HasFields bytes fields
  pub metadata : OneMessage IsMetadata 1 fields index.metadata
  pub documents : Messages IsDocument 2 fields index.documents
  pub external_symbols : Messages IsInfo 3 fields index.external_symbols
