use Rattle.std.proofs.Common.{sym, ◌∙◌}
use Rattle.scip_wire.proofs.DecodesLemmas.{varint_shortens}
use Rattle.scip_wire.proofs.PackedLemmas.{packed_goes_on, packed_stops, packed_done}
use Rattle.scip_wire.proofs.read.range.are_packed.Goals as goal

pub varints-smaller : goal.varints-smaller
varints-smaller c = varint_shortens c.varints.rest.now (c.in-Ok.read.0, c.in-Ok.read.1.now) c.in-Ok.ensures.reads

pub varints-preserved : goal.varints-preserved
varints-preserved c =
    packed_goes_on c.varints.rest.now c.in-Ok.read.1.now c.in-Ok.read.0 c.is_empty.result c.is_empty.ensures
    c.varints-test.true c.in-Ok.ensures.reads ∙ c.varints.invariant

pub returns-in-Err : goal.returns-in-Err
returns-in-Err c =
    sym (packed_stops c.varints.rest.now c.is_empty.result c.is_empty.ensures c.varints-test.true
    c.in-Err.ensures.fault.0) ∙ c.varints.invariant

pub returns : goal.returns
returns c =
    sym (packed_done c.varints.rest.now c.is_empty.result c.is_empty.ensures c.varints-test.false)
    ∙ c.varints.invariant
