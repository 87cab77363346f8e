use Rattle.std.proofs.Common.{◌∙◌, Ok, ap, sym, rules}
use Rattle.std.proofs.lemmas.Bool.{eqb-true, eqb-false}
use Rattle.std.proofs.lemmas.Result.{err_from_is_err_and}
use Rattle.scip_symbol.specs.Reading.{descriptors_at}
use Rattle.scip_symbol.proofs.ReadingDescriptorLemmas.{descriptor-falls, led-all, loop-last, loop-next, loop-stops}
use Rattle.scip_symbol.proofs.reader.read_descriptors.Goals as goal

pub returns-in_err-descriptor : goal.returns-in_err-descriptor
returns-in_err-descriptor c =
    let p = err_from_is_err_and c.from_residual.result c.from_residual.ensures.1 in
    rw (p.1, p.2) (loop-stops c.descriptors.descriptors.items c.descriptors.rest.now _ c.descriptors.invariant.0 _
    c.in_err-descriptor.ensures)

pub returns-then-is_empty : goal.returns-then-is_empty
returns-then-is_empty c =
    loop-last c.descriptors.descriptors.items c.descriptors.rest.now _ c.descriptors.invariant.0
    (c.in_ok-descriptor.descriptor, c.in_ok-descriptor.behind.now)
    c.in_ok-descriptor.ensures (eqb-true _ _ (sym c.is_empty.ensures ∙ c.if-is_empty.true))
    ∙ ap (λ ds. Ok ds) (sym (c.from_vec.ensures ∙ c.in_ok-add.ensures))

pub descriptors-smaller : goal.descriptors-smaller
descriptors-smaller c = descriptor-falls c.descriptors.rest.now
    (c.in_ok-descriptor.descriptor, c.in_ok-descriptor.behind.now) c.in_ok-descriptor.ensures

pub descriptors-preserved : goal.descriptors-preserved
descriptors-preserved c = (
  ap (λ ds. led-all ds (descriptors_at c.in_ok-descriptor.behind.now)) c.in_ok-add.ensures
      ∙ loop-next c.descriptors.descriptors.items c.descriptors.rest.now _ c.descriptors.invariant.0
      (c.in_ok-descriptor.descriptor, c.in_ok-descriptor.behind.now)
      c.in_ok-descriptor.ensures (eqb-false _ _ (sym c.is_empty.ensures ∙ c.if-is_empty.false)),
  search rules,
)
