-- A document's record, of which the front and the back are put by themselves.
use Rattle.std.proofs.Common.{◌≡◌, ◌∙◌, ℕ, ◌+◌, ◌-◌, ◌^◌, ◌<◌, List, [], ◌∷◌, ◌++◌, length}
use Rattle.std.proofs.Common.{sym, ap, arith, append_assoc, length-append}
use Rattle.std.proofs.lemmas.Grind.{flat_map-append}
use Rattle.scip_records.specs.declared.records.Document.{Document}
use Rattle.scip_wire.specs.Fields.{Field}
use Rattle.scip_wire.specs.Spelling.{field_bytes, bytes_of, bytes_field, text_fields, int_fields, info_fields}
use Rattle.scip_wire.specs.Spelling.{repeated_message_fields, document_fields, document_record}
use Rattle.scip_wire.specs.Halves.{front_fields, back_fields}
use Rattle.scip_wire.specs.Saturated.{saturated, fields_len}
use Rattle.scip_wire.proofs.SaturatedLemmas.{message_le}

halves : (d : Document) → front_fields d ++ back_fields d ≡ document_fields d
halves d =
    let entries = repeated_message_fields 3 info_fields d.symbols in
    let language = text_fields 4 d.language in
    let encoding = int_fields 6 d.position_encoding in
    sym (append_assoc (front_fields d) (entries ++ language) encoding)
    ∙ ap (λ (fields : List Field). fields ++ encoding) (sym (append_assoc (front_fields d) entries language))

pub halves_joined : (d : Document)
    → bytes_of (front_fields d) ++ bytes_of (back_fields d) ≡ bytes_of (document_fields d)
halves_joined d = sym (flat_map-append field_bytes (front_fields d) (back_fields d)) ∙ ap bytes_of (halves d)

halves_len : (d : Document) → fields_len (document_fields d) ≡ fields_len (front_fields d) + fields_len (back_fields d)
halves_len d = omega (
  arith,
  ap length (halves_joined d),
  length-append (bytes_of (front_fields d)) (bytes_of (back_fields d)),
)

pub front_short : (d : Document) → fields_len (document_fields d) < 2 ^ 64 → fields_len (front_fields d) < 2 ^ 64
front_short d short = omega (arith, short, halves_len d)

pub back_short : (d : Document) → fields_len (document_fields d) < 2 ^ 64 → fields_len (back_fields d) < 2 ^ 64
back_short d short = omega (arith, short, halves_len d)

-- the record is as long as the room that was asked for, if that is no more than there can be
pub record_room : (d : Document) (len room : ℕ) → len ≡ saturated (fields_len (document_fields d))
    → room ≡ saturated (fields_len (bytes_field 2 (bytes_of (document_fields d)) ∷ [])) → room < 2 ^ 64 - 1
    → (len ≡ fields_len (document_fields d)) × (fields_len (document_fields d) < 2 ^ 64)
    × (room ≡ length (document_record d))
record_room d len room len_is room_is small =
    let body = bytes_of (document_fields d) in
    let short : fields_len (document_fields d) < 2 ^ 64 = omega (arith, room_is, small, message_le 2 body) in
    let whole : room ≡ length (document_record d) =
    omega (arith, room_is, small, length-append (field_bytes (bytes_field 2 body)) []) in
    (omega (arith, len_is, room_is, small, message_le 2 body), short, whole)
