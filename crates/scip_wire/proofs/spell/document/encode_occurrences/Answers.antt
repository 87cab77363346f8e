use Rattle.std.proofs.Common.{◌<◌, ◌≤◌, arith, length, sym}
use Rattle.std.proofs.lemmas.Option.{get_or_from_slice_get}
use Rattle.scip_records.specs.declared.records.Occurrence.{Occurrence}
use Rattle.scip_wire.specs.Fields.{Field}
use Rattle.scip_wire.specs.Spelling.{bytes_of, bytes_field, occurrence_fields}
use Rattle.scip_wire.proofs.SaturatedLemmas.{message_short}
use Rattle.scip_wire.proofs.OutputLemmas.{alike, both, nothing, records_more, records_done}
use Rattle.scip_wire.proofs.spell.document.encode_occurrences.Goals as goal

pub occurrence-requires : goal.occurrence-requires
occurrence-requires g c = omega (arith, c.numbers-test.true, c.occurrence_count-number-end.ensures)

pub encode_message-requires-clause-short : goal.encode_message-requires-clause-short
encode_message-requires-clause-short g c =
    let all = (g.D.DocumentParts.document c.args.document.now).occurrences in
    let number = c.numbers.number in
    let item = c.occurrence.result in
    let within : number < length all = omega (arith, c.numbers-test.true, c.occurrence_count-number-end.ensures) in
    let is = sym (get_or_from_slice_get all number item item c.occurrence.ensures) in
    message_short occurrence_fields 2 all number item within is c.requires

pub numbers-preserved : goal.numbers-preserved
numbers-preserved g c =
    let all = (g.D.DocumentParts.document c.args.document.now).occurrences in
    let number = c.numbers.number in
    let item = c.occurrence.result in
    let within : number < length all = omega (arith, c.numbers-test.true, c.occurrence_count-number-end.ensures) in
    let is = sym (get_or_from_slice_get all number item item c.occurrence.ensures) in
    let record_of : Occurrence → Field = λ item. bytes_field 2 (bytes_of (occurrence_fields item)) in
    λ sink out left. c.numbers.invariant sink out
    (alike (records_more record_of all number item within is) (both c.encode_message.ensures left))

pub returns : goal.returns
returns g c =
    let all = (g.D.DocumentParts.document c.args.document.now).occurrences in
    let number = c.numbers.number in
    let record_of : Occurrence → Field = λ item. bytes_field 2 (bytes_of (occurrence_fields item)) in
    let past : length all ≤ number = omega (arith, c.numbers-test.false, c.occurrence_count-number-end.ensures) in
    c.numbers.invariant _ _ (alike (records_done record_of all number past) nothing)
