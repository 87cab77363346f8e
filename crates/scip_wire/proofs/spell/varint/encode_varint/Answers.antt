use Rattle.std.proofs.Common.{arith, sym}
use Rattle.scip_wire.proofs.SpellingVarintLemmas.{varint_last, varint_more}
use Rattle.scip_wire.proofs.OutputLemmas.{alike, both}
use Rattle.scip_wire.proofs.spell.varint.encode_varint.Goals as goal

pub groups-preserved : goal.groups-preserved
groups-preserved g c =
    λ sink out left. c.groups.invariant sink out
    (alike (sym (varint_more c.groups.rest (omega arith) (omega arith))) (both c.put_byte.ensures left))

pub returns : goal.returns
returns g c =
    c.groups.invariant _ _ (alike (sym (varint_last c.groups.rest (omega arith))) c.put_byte-2.ensures)
