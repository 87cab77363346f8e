use Rattle.std.proofs.Common.{◌<◌, ◌≤◌, arith, length, sym}
use Rattle.std.proofs.lemmas.Option.{get_or_from_slice_get}
use Rattle.basics.proofs.ListLemmas.{all_taken as fit_done}
use Rattle.scip_records.specs.declared.records.Occurrence.{Occurrence}
use Rattle.scip_wire.specs.Fields.{Field}
use Rattle.scip_wire.specs.Spelling.{bytes_of, bytes_field, occurrence_fields}
use Rattle.scip_wire.specs.WellFormed.{IsFitOccurrence}
use Rattle.scip_wire.proofs.SaturatedLemmas.{len_further, len_done, fit_further}
use Rattle.scip_wire.proofs.spell.document.occurrences_len.Goals as goal

pub occurrence-requires : goal.occurrence-requires
occurrence-requires g c = omega (arith, c.numbers-test.true, c.occurrence_count-number-end.ensures)

pub numbers-preserved : goal.numbers-preserved
numbers-preserved g c =
    let before = c.numbers.invariant in
    let all = (g.D.DocumentParts.document c.args.document.now).occurrences in
    let number = c.numbers.number in
    let item = c.occurrence.result in
    let within : number < length all = omega (arith, c.numbers-test.true, c.occurrence_count-number-end.ensures) in
    let is = sym (get_or_from_slice_get all number item item c.occurrence.ensures) in
    let record_of : Occurrence → Field = λ item. bytes_field 2 (bytes_of (occurrence_fields item)) in
    let sum = len_further record_of all number item c.numbers.len _ _ _ within is c.message_len.ensures.value
    c.saturating_add-len.ensures before.sum in
    let fit = fit_further IsFitOccurrence all number item within is before.fit c.message_len.ensures.fit in
    record { fits = omega (arith, c.saturating_add-len.ensures); sum = sum; fit = fit }

pub returns : goal.returns
returns g c =
    let last = c.numbers.invariant in
    let all = (g.D.DocumentParts.document c.args.document.now).occurrences in
    let record_of : Occurrence → Field = λ item. bytes_field 2 (bytes_of (occurrence_fields item)) in
    let past : length all ≤ c.numbers.number =
    omega (arith, c.numbers-test.false, c.occurrence_count-number-end.ensures) in
    record {
      value = len_done record_of all c.numbers.number c.numbers.len _ past last.fits last.sum;
      fit = fit_done IsFitOccurrence all c.numbers.number past last.fit;
    }
