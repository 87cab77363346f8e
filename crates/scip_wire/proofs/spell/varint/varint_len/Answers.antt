use Rattle.std.proofs.Common.{arith, length, ap}
use Rattle.scip_wire.proofs.SpellingVarintLemmas.{varint_last, varint_more, length-varint-le}
use Rattle.scip_wire.proofs.spell.varint.varint_len.Goals as goal

pub overflow_add-len : goal.overflow_add-len
overflow_add-len c = omega (arith, length-varint-le c.args.number)

pub groups-preserved : goal.groups-preserved
groups-preserved c = omega (arith, ap length (varint_more c.groups.rest (omega arith) (omega arith)))

pub returns : goal.returns
returns c =
    let last = ap length (varint_last c.groups.rest (omega arith)) in
    record { value = omega (arith, last); bound = omega (arith, last, length-varint-le c.args.number) }
