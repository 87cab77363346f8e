use Rattle.std.proofs.Common.{◌<◌, ◌∙◌, length, arith}
use Rattle.std.proofs.lemmas.Result.{err_from_is_err_and}
use Rattle.scip_wire.specs.Reading.{field_at}
use Rattle.scip_wire.specs.Views.{field_view}
use Rattle.scip_wire.specs.Blamed.{field_fault}
use Rattle.scip_wire.proofs.BlamedFoldLemmas.{blame_goes_on, blame_unread, blame_failed}
use Rattle.scip_wire.proofs.ReadingFoldLemmas.{goes_on, unread, failed, is_done, field_shortens, payload_fits}
use Rattle.scip_wire.proofs.read.message.read_message.Goals as goal

pub returns-in_err-field-clause-reads : goal.returns-in_err-field-clause-reads
returns-in_err-field-clause-reads g c =
    let p = err_from_is_err_and c.from_residual.result c.from_residual.ensures.1 in
    rw (p.1, p.2) (unread field_at g.M.Decode.step c.records.rest.now c.records.message c.is_empty.result
    c.is_empty.ensures c.records-test.true _ _ c.records.invariant.reads c.in_err-field.ensures.reads)

pub returns-in_err-field-clause-fault : goal.returns-in_err-field-clause-fault
returns-in_err-field-clause-fault g c =
    let p = err_from_is_err_and c.from_residual.result c.from_residual.ensures.1 in
    rw (p.1, p.2) (blame_unread field_at field_fault g.M.Decode.step g.M.Decode.step_fault c.args.end c.records.rest.now
    c.records.message c.is_empty.result c.is_empty.ensures c.records-test.true _ _ c.records.invariant.blames
    c.in_err-field.ensures.reads c.in_err-field.ensures.fault.1)

pub overflow_sub-end : goal.overflow_sub-end
overflow_sub-end g c =
    omega (
      arith,
      c.records.invariant.ends,
      payload_fits c.records.rest.now c.in_ok-field.after.now c.in_ok-field.field.number c.in_ok-field.field.payload
          c.in_ok-field.ensures.reads,
    )

pub merge_field-requires : goal.merge_field-requires
merge_field-requires g c =
    omega (
      arith,
      c.records.invariant.ends,
      payload_fits c.records.rest.now c.in_ok-field.after.now c.in_ok-field.field.number c.in_ok-field.field.payload
          c.in_ok-field.ensures.reads,
    )

pub returns-in_err-merge_field-clause-reads : goal.returns-in_err-merge_field-clause-reads
returns-in_err-merge_field-clause-reads g c =
    let p = err_from_is_err_and c.from_residual-in_err-merge_field.result c.from_residual-in_err-merge_field.ensures.1
    in
    rw (p.1, p.2) (failed field_at g.M.Decode.step c.records.rest.now c.records.message c.is_empty.result
    c.is_empty.ensures c.records-test.true _ _
    (field_view c.in_ok-field.field) c.in_ok-field.after.now c.records.invariant.reads c.in_ok-field.ensures.reads
    c.in_err-merge_field.ensures.reads)

pub returns-in_err-merge_field-clause-fault : goal.returns-in_err-merge_field-clause-fault
returns-in_err-merge_field-clause-fault g c =
    let p = err_from_is_err_and c.from_residual-in_err-merge_field.result c.from_residual-in_err-merge_field.ensures.1
    in
    rw (p.1, p.2) (blame_failed field_at field_fault g.M.Decode.step g.M.Decode.step_fault c.args.end c.records.rest.now
    c.records.message c.is_empty.result c.is_empty.ensures c.records-test.true _ _
    (field_view c.in_ok-field.field) c.in_ok-field.after.now c.records.invariant.blames c.in_ok-field.ensures.reads
    c.in_err-merge_field.ensures.reads c.in_err-merge_field.ensures.fault)

pub records-smaller : goal.records-smaller
records-smaller g c = field_shortens c.records.rest.now
    (field_view c.in_ok-field.field, c.in_ok-field.after.now) c.in_ok-field.ensures.reads

pub records-preserved : goal.records-preserved
records-preserved g c =
    let shorter : length c.in_ok-field.after.now < length c.records.rest.now =
    field_shortens c.records.rest.now
    (field_view c.in_ok-field.field, c.in_ok-field.after.now) c.in_ok-field.ensures.reads in
    record {
      reads = goes_on field_at g.M.Decode.step c.records.rest.now c.records.message c.is_empty.result c.is_empty.ensures
          field_shortens c.records-test.true
          (field_view c.in_ok-field.field) c.in_ok-field.after.now c.merge_field.new.self c.in_ok-field.ensures.reads
          c.in_ok-merge_field.ensures.reads ∙ c.records.invariant.reads;
      ends = omega (arith, c.records.invariant.ends);
      blames = blame_goes_on field_at field_fault g.M.Decode.step g.M.Decode.step_fault c.args.end c.records.rest.now
          c.records.message c.is_empty.result c.is_empty.ensures c.records-test.true field_shortens
          (field_view c.in_ok-field.field) c.in_ok-field.after.now c.merge_field.new.self c.in_ok-field.ensures.reads
          c.in_ok-merge_field.ensures.reads ∙ c.records.invariant.blames;
    }

pub returns-clause-reads : goal.returns-clause-reads
returns-clause-reads g c = is_done field_at g.M.Decode.step c.records.rest.now c.records.message c.is_empty.result
    c.is_empty.ensures c.records-test.false _ c.records.invariant.reads
