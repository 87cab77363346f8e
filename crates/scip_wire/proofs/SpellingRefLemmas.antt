-- Lent texts: their records are those of a list of texts. Lent symbols: their records are those of one text.
use Rattle.std.proofs.Common.{◌≡◌, ◌∙◌, ℕ, ◌+◌, ◌*◌, ◌^◌, ◌<◌, ◌≤◌, List, [], ◌∷◌, ◌++◌, length, All, IsUtf8}
use Rattle.std.proofs.Common.{refl, sym, ap, arith, append-nil, length-append}
use Rattle.std.proofs.lemmas.Grind.{flat_map-append}
use Rattle.std.proofs.lemmas.List.{map-append}
use Rattle.std.proofs.lemmas.List.Elements.{All-nil, All-cons, All-append}
use Rattle.scip_records.specs.Texts.{unless_empty}
use Rattle.scip_records.specs.declared.records.Occurrence.{Occurrence}
use Rattle.scip_records.specs.declared.records.SymbolInformation.{SymbolInformation}
use Rattle.scip_wire.specs.Fields.{Field}
use Rattle.scip_wire.specs.Spelling.{bytes_of, field_bytes, bytes_field, text_fields, int_fields, repeated_text_fields}
use Rattle.scip_wire.specs.Spelling.{range_field, optional_range_fields, occurrence_fields, signature_fields}
use Rattle.scip_wire.specs.Spelling.{varint, info_fields}
use Rattle.scip_wire.specs.Saturated.{saturated, fields_len}
use Rattle.scip_wire.proofs.SaturatedLemmas.{message_le}

-- a text that is left out where it is empty
pub one_text : (k : ℕ) (text : List ℕ) → text_fields k text ≡ repeated_text_fields k (unless_empty text)
one_text k [] = refl
one_text k (byte ∷ others) = refl

-- a list and two such texts
pub ref_fields : (k : ℕ) (listed : List (List ℕ)) (first second : List ℕ)
    → repeated_text_fields k listed ++ (text_fields k first ++ text_fields k second)
    ≡ repeated_text_fields k (listed ++ (unless_empty first ++ unless_empty second))
ref_fields k listed first second =
    rw (
      one_text k first,
      one_text k second,
      map-append (bytes_field k) listed (unless_empty first ++ unless_empty second),
      map-append (bytes_field k) (unless_empty first) (unless_empty second),
    ) refl

-- what is known of a text, of one that is left out where it is empty
one_fit : (text : List ℕ) → IsUtf8 text → All IsUtf8 (unless_empty text)
one_fit [] fit = All-nil IsUtf8
one_fit (byte ∷ others) fit = All-cons IsUtf8 (byte ∷ others) [] fit (All-nil IsUtf8)

pub ref_fit : (listed : List (List ℕ)) (first second : List ℕ) → All IsUtf8 listed → IsUtf8 first → IsUtf8 second
    → All IsUtf8 (listed ++ (unless_empty first ++ unless_empty second))
ref_fit listed first second all one two =
    All-append IsUtf8 listed (unless_empty first ++ unless_empty second) all
    (All-append IsUtf8 (unless_empty first) (unless_empty second) (one_fit first one) (one_fit second two))

-- ---- a symbol in two parts

text_absent : (k : ℕ) (text : List ℕ) → length text ≡ 0 → text_fields k text ≡ []
text_absent k [] none = refl
text_absent k (byte ∷ others) none = absurd (omega (arith, none))

text_there : (k : ℕ) (text : List ℕ) → 0 < length text → text_fields k text ≡ bytes_field k text ∷ []
text_there k [] some = absurd (omega (arith, some))
text_there k (byte ∷ others) some = refl

-- it is empty: it has no record
pub empty_symbol : (k n : ℕ) (text : List ℕ) → n ≡ 0 → n ≡ saturated (length text) → [] ≡ bytes_of (text_fields k text)
empty_symbol k n text none len = sym (ap bytes_of (text_absent k text (omega (arith, none, len))))

-- it isn't: its record has its parts, one behind the other
pub symbol_record : (k n : ℕ) (front rest text : List ℕ) → 0 < n → n ≡ saturated (length text) → length text < 2 ^ 64
    → front ++ rest ≡ text
    → varint (8 * k + 2) ++ (varint n ++ (front ++ rest)) ≡ bytes_of (text_fields k text)
symbol_record k n front rest text some len short is =
    let size : n ≡ length text = omega (arith, len, short) in
    let there : 0 < length text = omega (arith, some, size) in
    ap (λ m. varint (8 * k + 2) ++ (varint m ++ (front ++ rest))) size
    ∙ ap (λ l. varint (8 * k + 2) ++ (varint (length text) ++ l)) is
    ∙ sym (append-nil (field_bytes (bytes_field k text)))
    ∙ sym (ap bytes_of (text_there k text there))

-- it is no longer than the message that has it
pub text_le : (k : ℕ) (text : List ℕ) → length text ≤ fields_len (text_fields k text)
text_le k [] = omega arith
text_le k (byte ∷ others) = message_le k (byte ∷ others)

pub fields_len_append : (fs gs : List Field) → fields_len (fs ++ gs) ≡ fields_len fs + fields_len gs
fields_len_append fs gs =
    omega (arith, ap length (flat_map-append field_bytes fs gs), length-append (bytes_of fs) (bytes_of gs))

pub occurrence_symbol : (o : Occurrence) → fields_len (occurrence_fields o) < 2 ^ 64 → length o.symbol < 2 ^ 64
occurrence_symbol o short =
    let range = range_field 1 o.range ∷ [] in
    let symbol = text_fields 2 o.symbol in
    let roles = int_fields 3 o.symbol_roles in
    omega (
      arith,
      short,
      fields_len_append ((range ++ symbol) ++ roles) (optional_range_fields 7 o.enclosing_range),
      fields_len_append (range ++ symbol) roles,
      fields_len_append range symbol,
      text_le 2 o.symbol,
    )

-- the longest of an entry's texts and its signature are shorter than all
record AreShort (i : SymbolInformation) : Type 0 where
  symbol : length i.symbol < 2 ^ 64
  signature : fields_len (signature_fields i.details.signature) < 2 ^ 64
  enclosing_symbol : length i.details.enclosing_symbol < 2 ^ 64

are_short : (i : SymbolInformation) → fields_len (info_fields i) < 2 ^ 64 → AreShort i
are_short i short =
    let symbol = text_fields 1 i.symbol in
    let texts = repeated_text_fields 3 i.documentation in
    let kind = int_fields 5 i.details.kind in
    let name = text_fields 6 i.display_name in
    let signature = text_fields 7 (bytes_of (signature_fields i.details.signature)) in
    let enclosing = text_fields 8 i.details.enclosing_symbol in
    let last = fields_len_append ((((symbol ++ texts) ++ kind) ++ name) ++ signature) enclosing in
    let before = fields_len_append (((symbol ++ texts) ++ kind) ++ name) signature in
    let front = fields_len_append ((symbol ++ texts) ++ kind) name in
    let kinds = fields_len_append (symbol ++ texts) kind in
    let first = fields_len_append symbol texts in
    record {
      symbol = omega (arith, short, last, before, front, kinds, first, text_le 1 i.symbol);
      signature = omega (arith, short, last, before, text_le 7 (bytes_of (signature_fields i.details.signature)));
      enclosing_symbol = omega (arith, short, last, text_le 8 i.details.enclosing_symbol);
    }

pub info_symbol : (i : SymbolInformation) → fields_len (info_fields i) < 2 ^ 64 → length i.symbol < 2 ^ 64
info_symbol i short = (are_short i short).symbol

pub info_signature : (i : SymbolInformation) → fields_len (info_fields i) < 2 ^ 64
    → fields_len (signature_fields i.details.signature) < 2 ^ 64
info_signature i short = (are_short i short).signature

pub info_enclosing : (i : SymbolInformation) → fields_len (info_fields i) < 2 ^ 64
    → length i.details.enclosing_symbol < 2 ^ 64
info_enclosing i short = (are_short i short).enclosing_symbol
