use Rattle.std.proofs.Common.{◌∙◌, ◌≡◌, Some, refl}
use Rattle.std.proofs.lemmas.Result.{err_from_is_err_and}
use Rattle.scip_wire.specs.Fields.{max_varint_len}
use Rattle.scip_wire.specs.Reading.{varint_at, packed_step}
use Rattle.scip_wire.specs.Blamed.{varint_fault, no_step_fault, packed_fault}
use Rattle.scip_wire.proofs.BlamedFoldLemmas.{blame_goes_on, blame_unread}
use Rattle.scip_wire.proofs.ReadingFoldLemmas.{goes_on, unread, is_done}
use Rattle.scip_wire.proofs.DecodesLemmas.{varint_shortens}
use Rattle.scip_wire.proofs.read.range.add_packed.Goals as goal

pub returns-in_err-value-clause-reads : goal.returns-in_err-value-clause-reads
returns-in_err-value-clause-reads c =
    let p = err_from_is_err_and c.from_residual.result c.from_residual.ensures.1 in
    rw (p.1, p.2) (unread (varint_at max_varint_len) packed_step c.varints.rest.now c.varints.numbers c.is_empty.result
    c.is_empty.ensures c.varints-test.true _ _ c.varints.invariant.reads c.in_err-value.ensures.reads)

pub returns-in_err-value-clause-fault : goal.returns-in_err-value-clause-fault
unfolding packed_fault
returns-in_err-value-clause-fault c =
    let p = err_from_is_err_and c.from_residual.result c.from_residual.ensures.1 in
    rw (p.1, p.2) (blame_unread (varint_at max_varint_len) (λ _. varint_fault c.args.start max_varint_len) packed_step
    no_step_fault 0 c.varints.rest.now c.varints.numbers c.is_empty.result c.is_empty.ensures c.varints-test.true _ _
    c.varints.invariant.blames c.in_err-value.ensures.reads c.in_err-value.ensures.fault.1)

pub varints-smaller : goal.varints-smaller
varints-smaller c = varint_shortens c.varints.rest.now
    (c.in_ok-value.value, c.in_ok-value.after.now) c.in_ok-value.ensures.reads

pub varints-preserved : goal.varints-preserved
unfolding packed_step packed_fault
varints-preserved c =
    let added : packed_step c.varints.numbers c.in_ok-value.value ≡ Some c.push.new.self =
    rw (c.in_ok-push.ensures, c.low_bits.ensures) refl in
    record {
      reads = goes_on (varint_at max_varint_len) packed_step c.varints.rest.now c.varints.numbers c.is_empty.result
          c.is_empty.ensures varint_shortens c.varints-test.true
          c.in_ok-value.value c.in_ok-value.after.now c.push.new.self c.in_ok-value.ensures.reads added
          ∙ c.varints.invariant.reads;
      blames = blame_goes_on (varint_at max_varint_len) (λ _. varint_fault c.args.start max_varint_len) packed_step
          no_step_fault 0 c.varints.rest.now c.varints.numbers c.is_empty.result c.is_empty.ensures c.varints-test.true
          varint_shortens c.in_ok-value.value c.in_ok-value.after.now c.push.new.self c.in_ok-value.ensures.reads added
          ∙ c.varints.invariant.blames;
    }

pub returns-clause-reads : goal.returns-clause-reads
returns-clause-reads c = is_done (varint_at max_varint_len) packed_step c.varints.rest.now c.varints.numbers
    c.is_empty.result c.is_empty.ensures c.varints-test.false _ c.varints.invariant.reads
