-- What the reader computes, as functions on lists: None if it refuses.
use Rattle.std.specs.Prelude.{ℕ, ℤ, pos, zero, suc, ◌+◌, ◌-◌, ◌*◌, ◌/◌, ◌%◌, ◌^◌, Bool, cond, nat_eq, nat_lt, nat_le}
use Rattle.std.specs.Prelude.{◌&&◌, List, [], ◌∷◌, ◌++◌, length, take, drop, Option, Some, None, option_and_then}
use Rattle.std.specs.Prelude.{unwrap_or}
use Rattle.std.specs.Int.{w32, cast_signed}
use Rattle.std.specs.Str.{is_utf8}
use Rattle.scip_records.specs.Range.{RangeNumbers, max_range_number}
use Rattle.scip_records.specs.Details.{no_signature, no_details, with_signature, with_enclosing_symbol}
use Rattle.scip_records.specs.declared.details.Signature.{Signature}
use Rattle.scip_records.specs.declared.details.Details.{Details}
use Rattle.scip_records.specs.declared.records.Index.{Index}
use Rattle.scip_records.specs.declared.records.Metadata.{Metadata}
use Rattle.scip_records.specs.declared.records.ToolInfo.{ToolInfo}
use Rattle.scip_records.specs.declared.records.Document.{Document}
use Rattle.scip_records.specs.declared.records.Occurrence.{Occurrence}
use Rattle.scip_records.specs.declared.records.SymbolInformation.{SymbolInformation}
use Rattle.scip_wire.specs.declared.read.occurrence.OccurrenceParts.{OccurrenceParts}
use Rattle.scip_wire.specs.Fields.{Payload, Varint, Fixed64, Delimited, Fixed32, Field, max_varint_len}
use Rattle.scip_wire.specs.Decodes.{last_or, low_32_bits}

infixl 10 ◌>>=◌
abbrev pub ◌>>=◌ : {A B : Type 0} → Option A → (A → Option B) → Option B
o >>= f = option_and_then f o

-- ---- bytes to fields

unfoldable pub varint_at : ℕ → List ℕ → Option (ℕ × List ℕ)
varint_at zero bytes = None
varint_at (suc limit) [] = None
varint_at (suc limit) (byte ∷ bytes) =
    cond (nat_lt byte 128) (Some (byte, bytes))
    (varint_at limit bytes >>= λ high. cond (nat_lt high.0 (2 ^ 57)) (Some (byte - 128 + 128 * high.0, high.1)) None)

unfoldable pub piece_at : ℕ → List ℕ → Option (List ℕ × List ℕ)
piece_at size bytes = cond (nat_le size (length bytes)) (Some (take size bytes, drop size bytes)) None

unfoldable pub payload_at : ℕ → List ℕ → Option (Payload × List ℕ)
payload_at type bytes =
    cond (nat_eq type 0) (varint_at max_varint_len bytes >>= λ value. Some (Varint value.0, value.1))
    (cond (nat_eq type 1) (piece_at 8 bytes >>= λ piece. Some (Fixed64 piece.0, piece.1))
    (cond (nat_eq type 2) (varint_at max_varint_len bytes >>= λ size. piece_at size.0 size.1 >>= λ piece. Some
    (Delimited piece.0, piece.1))
    (cond (nat_eq type 5) (piece_at 4 bytes >>= λ piece. Some (Fixed32 piece.0, piece.1)) None)))

unfoldable pub field_at : List ℕ → Option (Field × List ℕ)
field_at bytes =
    varint_at max_varint_len bytes >>= λ tag. cond (nat_lt tag.0 (2 ^ 32))
    (cond (nat_lt tag.0 8) None
    (payload_at (tag.0 % 8) tag.1 >>= λ payload. Some (record { number = tag.0 / 8; payload = payload.0 }, payload.1)))
    None

-- ---- folds that may fail

-- over a list
abbrev pub changed : {S A : Type 0} → (S → A → Option S) → List A → S → Option S
changed step [] s = Some s
changed step (x ∷ xs) s = step s x >>= changed step xs

-- over the items that a reader finds in bytes, up to their end
unfoldable pub fold_in : {S A : Type 0} → (List ℕ → Option (A × List ℕ)) → (S → A → Option S) → ℕ → List ℕ → S
    → Option S
fold_in read step zero [] s = Some s
fold_in read step zero (byte ∷ bytes) s = None
fold_in read step (suc bound) [] s = Some s
fold_in read step (suc bound) (byte ∷ bytes) s =
    read (byte ∷ bytes) >>= λ item. step s item.0 >>= fold_in read step bound item.1

unfoldable pub fold_at : {S A : Type 0} → (List ℕ → Option (A × List ℕ)) → (S → A → Option S) → List ℕ → S → Option S
fold_at read step bytes s = fold_in read step (length bytes) bytes s

-- two folds side by side
unfoldable pub both : {S T A : Type 0} → (S → A → Option S) → (T → A → Option T) → S × T → A → Option (S × T)
both left right s x = left s.0 x >>= λ a. right s.1 x >>= λ b. Some (a, b)

-- a fold on parts of a whole
unfoldable pub parted : {S T A : Type 0} → (S → T) → (T → S) → (T → A → Option T) → S → A → Option S
parted parts whole step s x = step (parts s) x >>= λ t. Some (whole t)

-- ---- the columns of a message: what a field does to one of its parts

-- the values of a payload are added where the field has this number
unfoldable pub column : {S A : Type 0} → (S → List A → Option S) → (Payload → Option (List A)) → ℕ → S → Field
    → Option S
column add values number s field = cond (nat_eq field.number number) (values field.payload >>= add s) (Some s)

abbrev pub add_more : {A : Type 0} → List A → List A → Option (List A)
add_more xs more = Some (xs ++ more)

abbrev pub add_last : {A : Type 0} → A → List A → Option A
add_last x more = Some (last_or x more)

abbrev pub add_only : {A : Type 0} → Option A → List A → Option (Option A)
add_only o [] = Some o
add_only None (x ∷ xs) = add_only (Some x) xs
add_only (Some y) (x ∷ xs) = None

-- the values of a payload

unfoldable pub text_at : List ℕ → Option (List ℕ)
text_at bytes = cond (is_utf8 bytes) (Some bytes) None

abbrev pub number_at : ℕ → ℤ
number_at value = cast_signed w32 (low_32_bits value)

abbrev pub message_in : {A : Type 0} → (List ℕ → Option A) → Payload → Option (List A)
message_in read (Delimited bytes) = read bytes >>= λ x. Some (x ∷ [])
message_in read (Varint _) = Some []
message_in read (Fixed64 _) = Some []
message_in read (Fixed32 _) = Some []

abbrev pub number_in : Payload → Option (List ℤ)
number_in (Varint value) = Some (number_at value ∷ [])
number_in (Delimited _) = Some []
number_in (Fixed64 _) = Some []
number_in (Fixed32 _) = Some []

-- those of a detail: none if they can't be read
abbrev pub readable : {A : Type 0} → Option (List A) → List A
readable values = unwrap_or values []

abbrev pub detail_in : {A : Type 0} → (Payload → Option (List A)) → Payload → Option (List A)
detail_in values payload = Some (readable (values payload))

abbrev pub text_column : ℕ → List ℕ → Field → Option (List ℕ)
text_column = column add_last (message_in text_at)

abbrev pub texts_column : ℕ → List (List ℕ) → Field → Option (List (List ℕ))
texts_column = column add_more (message_in text_at)

abbrev pub number_column : ℕ → ℤ → Field → Option ℤ
number_column = column add_last number_in

abbrev pub only_column : {A : Type 0} → (List ℕ → Option A) → ℕ → Option A → Field → Option (Option A)
only_column read = column add_only (message_in read)

-- a message that comes at most once, after what came before
abbrev pub only_after : {A : Type 0} → (List ℕ → Option A) → Option A → List ℕ → Option (Option A)
only_after read earlier bytes = message_in read (Delimited bytes) >>= add_only earlier

-- the messages with one more after them
unfoldable pub more_after : {A : Type 0} → (List ℕ → Option A) → List A → List ℕ → Option (List A)
more_after read messages bytes = read bytes >>= λ x. add_more messages (x ∷ [])

-- the texts with one more after them
abbrev pub text_after : List (List ℕ) → List ℕ → Option (List (List ℕ))
text_after = more_after text_at

abbrev pub messages_column : {A : Type 0} → (List ℕ → Option A) → ℕ → List A → Field → Option (List A)
messages_column read = column add_more (message_in read)

-- a detail of which the last one that can be read counts
abbrev pub detail_column : {A : Type 0} → (List ℕ → Option A) → ℕ → A → Field → Option A
detail_column read = column add_last (detail_in (message_in read))

-- that detail after what came before
abbrev pub detail_after : {A : Type 0} → (List ℕ → Option A) → A → List ℕ → A
detail_after read earlier bytes = last_or earlier (readable (message_in read (Delimited bytes)))

-- ---- the messages

unfoldable pub signature_step : Signature → Field → Option Signature
signature_step = parted (λ s. (s.language, s.text)) (λ t. record { language = t.0; text = t.1 })
    (both (text_column 4) (text_column 5))

unfoldable pub signature_at : List ℕ → Option Signature
signature_at bytes = fold_at field_at signature_step bytes no_signature

unfoldable pub info_step : SymbolInformation → Field → Option SymbolInformation
info_step =
    parted (λ i. (
      i.symbol,
      (
        i.documentation,
        (
          i.details.kind,
          (
            i.display_name,
            (
              i.details.signature,
              i.details.enclosing_symbol,
            ),
          ),
        ),
      ),
    ))
    (λ t. record {
      symbol = t.0;
      documentation = t.1.0;
      display_name = t.1.1.1.0;
      details = record { kind = t.1.1.0; signature = t.1.1.1.1.0; enclosing_symbol = t.1.1.1.1.1 };
    })
    (both (text_column 1) (both (texts_column 3) (both (number_column 5)
    (both (text_column 6) (both (detail_column signature_at 7) (detail_column text_at 8))))))

-- details with a part in the place of an earlier one
abbrev pub signature_after : Details → List ℕ → Details
signature_after d bytes = with_signature (detail_after signature_at d.signature bytes) d

abbrev pub enclosing_symbol_after : Details → List ℕ → Details
enclosing_symbol_after d bytes = with_enclosing_symbol (detail_after text_at d.enclosing_symbol bytes) d

abbrev pub no_info : SymbolInformation
no_info = record { symbol = []; documentation = []; display_name = []; details = no_details }

unfoldable pub info_at : List ℕ → Option SymbolInformation
info_at bytes = fold_at field_at info_step bytes no_info

unfoldable pub tool_info_step : ToolInfo → Field → Option ToolInfo
tool_info_step = parted (λ t. (t.name, (t.version, t.arguments)))
    (λ t. record { name = t.0; version = t.1.0; arguments = t.1.1 })
    (both (text_column 1) (both (text_column 2) (texts_column 3)))

abbrev pub no_tool_info : ToolInfo
no_tool_info = record { name = []; version = []; arguments = [] }

unfoldable pub tool_info_at : List ℕ → Option ToolInfo
tool_info_at bytes = fold_at field_at tool_info_step bytes no_tool_info

unfoldable pub metadata_step : Metadata → Field → Option Metadata
metadata_step = parted (λ m. (m.version, (m.tool_info, (m.project_root, m.text_document_encoding))))
    (λ t. record { version = t.0; tool_info = t.1.0; project_root = t.1.1.0; text_document_encoding = t.1.1.1 })
    (both (number_column 1) (both (only_column tool_info_at 2) (both (text_column 3) (number_column 4))))

abbrev pub no_metadata : Metadata
no_metadata = record { version = pos 0; tool_info = None; project_root = []; text_document_encoding = pos 0 }

unfoldable pub metadata_at : List ℕ → Option Metadata
metadata_at bytes = fold_at field_at metadata_step bytes no_metadata

-- the numbers of a range
unfoldable pub packed_step : List ℕ → ℕ → Option (List ℕ)
packed_step numbers value = Some (numbers ++ low_32_bits value ∷ [])

unfoldable pub packed_at : List ℕ → Option (List ℕ)
packed_at bytes = fold_at (varint_at max_varint_len) packed_step bytes []

abbrev pub numbers_in : Payload → Option (List ℕ)
numbers_in (Varint value) = Some (low_32_bits value ∷ [])
numbers_in (Delimited bytes) = packed_at bytes
numbers_in (Fixed64 _) = Some []
numbers_in (Fixed32 _) = Some []

-- the range of these numbers, each of which has to fit
abbrev pub fits : RangeNumbers → Bool
fits r = nat_le r.start_line max_range_number && nat_le r.start_column max_range_number
    && nat_le r.end_line max_range_number && nat_le r.end_column max_range_number

unfoldable pub checked_range : RangeNumbers → Option RangeNumbers
checked_range r = cond (fits r) (Some r) None

unfoldable pub range_at : List ℕ → Option RangeNumbers
range_at (a ∷ b ∷ c ∷ []) = checked_range (record { start_line = a; start_column = b; end_line = a; end_column = c })
range_at (a ∷ b ∷ c ∷ d ∷ []) =
    checked_range (record { start_line = a; start_column = b; end_line = c; end_column = d })
range_at _ = None

-- an occurrence's parts, before its range is made of its numbers

unfoldable pub occurrence_step : OccurrenceParts → Field → Option OccurrenceParts
occurrence_step = parted (λ o. (o.numbers, (o.symbol, (o.symbol_roles, o.around))))
    (λ t. record { numbers = t.0; symbol = t.1.0; symbol_roles = t.1.1.0; around = t.1.1.1 })
    (both (column add_more numbers_in 1)
    (both (text_column 2) (both (number_column 3) (column add_more (detail_in numbers_in) 7))))

abbrev pub no_parts : OccurrenceParts
no_parts = record { numbers = []; symbol = []; symbol_roles = pos 0; around = [] }

unfoldable pub parts_at : List ℕ → Option OccurrenceParts
parts_at bytes = fold_at field_at occurrence_step bytes no_parts

-- none if it has no range numbers
unfoldable pub occurrence_of : OccurrenceParts → Option (List Occurrence)
occurrence_of parts = made parts.numbers parts.symbol parts.symbol_roles parts.around where
  made : List ℕ → List ℕ → ℤ → List ℕ → Option (List Occurrence)
  made [] symbol roles around = Some []
  made (n ∷ ns) symbol roles around =
      range_at (n ∷ ns) >>= λ range.
      Some (record { range = range; symbol = symbol; symbol_roles = roles; enclosing_range = range_at around } ∷ [])

unfoldable pub occurrence_at : List ℕ → Option (List Occurrence)
occurrence_at bytes = parts_at bytes >>= occurrence_of

abbrev pub occurrence_after : List Occurrence → List ℕ → Option (List Occurrence)
occurrence_after occurrences bytes = occurrence_at bytes >>= add_more occurrences

abbrev pub occurrence_in : Payload → Option (List Occurrence)
occurrence_in (Delimited bytes) = occurrence_at bytes
occurrence_in (Varint _) = Some []
occurrence_in (Fixed64 _) = Some []
occurrence_in (Fixed32 _) = Some []

unfoldable pub document_step : Document → Field → Option Document
document_step = parted (λ d. (d.relative_path, (d.occurrences, (d.symbols, (d.language, d.position_encoding)))))
    (λ t. record {
      relative_path = t.0;
      occurrences = t.1.0;
      symbols = t.1.1.0;
      language = t.1.1.1.0;
      position_encoding = t.1.1.1.1;
    })
    (both (text_column 1) (both (column add_more occurrence_in 2)
    (both (messages_column info_at 3) (both (text_column 4) (number_column 6)))))

abbrev pub no_document : Document
no_document = record { relative_path = []; occurrences = []; symbols = []; language = []; position_encoding = pos 0 }

unfoldable pub document_at : List ℕ → Option Document
document_at bytes = fold_at field_at document_step bytes no_document

unfoldable pub index_step : Index → Field → Option Index
index_step = parted (λ i. (i.metadata, (i.documents, i.external_symbols)))
    (λ t. record { metadata = t.0; documents = t.1.0; external_symbols = t.1.1 })
    (both (only_column metadata_at 1) (both (messages_column document_at 2) (messages_column info_at 3)))

abbrev pub no_index : Index
no_index = record { metadata = None; documents = []; external_symbols = [] }

unfoldable pub index_at : List ℕ → Option Index
index_at bytes = fold_at field_at index_step bytes no_index
