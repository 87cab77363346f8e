use Rattle.std.proofs.Common.{◌≤◌, ◌<◌, ◌-◌, ◌^◌, ◌∙◌, length, arith, ap}
use Rattle.scip_wire.specs.Spelling.{document_record}
use Rattle.scip_wire.proofs.SpellingHalfLemmas.{record_room}
use Rattle.scip_wire.proofs.ShortenedLemmas.{all_shortened}
use Rattle.scip_wire.proofs.spell.pieces.spell_document.Goals as goal

pub encode_and_let_go-requires-clause-len : goal.encode_and_let_go-requires-clause-len
encode_and_let_go-requires-clause-len g c =
    let document = g.D.DocumentParts.document c.args.document.now in
    let small : c.record_len-room.result < 2 ^ 64 - 1 =
    omega (arith, c.in_ok-bytes.ensures.has_room, c.in_ok-bytes.bytes.rest.small) in
    (record_room document _ _ c.encoded_len-len.ensures.value
    (c.record_len-room.ensures _ c.encoded_len-len.ensures.value) small).0

pub encode_and_let_go-requires-clause-short : goal.encode_and_let_go-requires-clause-short
encode_and_let_go-requires-clause-short g c =
    let document = g.D.DocumentParts.document c.args.document.now in
    let small : c.record_len-room.result < 2 ^ 64 - 1 =
    omega (arith, c.in_ok-bytes.ensures.has_room, c.in_ok-bytes.bytes.rest.small) in
    (record_room document _ _ c.encoded_len-len.ensures.value
    (c.record_len-room.ensures _ c.encoded_len-len.ensures.value) small).1

pub new-requires-clause-placed : goal.new-requires-clause-placed
new-requires-clause-placed g c =
    let document = g.D.DocumentParts.document c.args.document.now in
    let begun = c.in_ok-bytes.ensures in
    let small : c.record_len-room.result < 2 ^ 64 - 1 = omega (arith, begun.has_room, c.in_ok-bytes.bytes.rest.small) in
    let room = (record_room document _ _ c.encoded_len-len.ensures.value
    (c.record_len-room.ensures _ c.encoded_len-len.ensures.value) small).2 in
    let fits : length (document_record document) ≤ c.record_len-room.result = omega (arith, room) in
    (all_shortened _ _ _ _ _ (document_record document) begun fits c.encode_and_let_go.ensures.put).1

pub new-requires-clause-len : goal.new-requires-clause-len
new-requires-clause-len g c =
    let document = g.D.DocumentParts.document c.args.document.now in
    let begun = c.in_ok-bytes.ensures in
    let small : c.record_len-room.result < 2 ^ 64 - 1 = omega (arith, begun.has_room, c.in_ok-bytes.bytes.rest.small) in
    let room = (record_room document _ _ c.encoded_len-len.ensures.value
    (c.record_len-room.ensures _ c.encoded_len-len.ensures.value) small).2 in
    let fits : length (document_record document) ≤ c.record_len-room.result = omega (arith, room) in
    let whole = (all_shortened _ _ _ _ _ (document_record document) begun fits c.encode_and_let_go.ensures.put).0 in
    omega (arith, ap length whole, room)

pub returns-clause-bytes : goal.returns-clause-bytes
returns-clause-bytes g c =
    let document = g.D.DocumentParts.document c.args.document.now in
    let begun = c.in_ok-bytes.ensures in
    let small : c.record_len-room.result < 2 ^ 64 - 1 = omega (arith, begun.has_room, c.in_ok-bytes.bytes.rest.small) in
    let room = (record_room document _ _ c.encoded_len-len.ensures.value
    (c.record_len-room.ensures _ c.encoded_len-len.ensures.value) small).2 in
    let fits : length (document_record document) ≤ c.record_len-room.result = omega (arith, room) in
    c.new.ensures ∙ (all_shortened _ _ _ _ _ (document_record document) begun fits c.encode_and_let_go.ensures.put).0
