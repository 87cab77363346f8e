use Rattle.std.proofs.Common.{sym, ap, append-nil}
use Rattle.scip_wire.specs.Spelling.{varint}
use Rattle.scip_wire.proofs.OutputLemmas.{alike, both}
use Rattle.scip_wire.proofs.spell.range.encode_range.Goals as goal

pub returns : goal.returns
returns g c = alike (sym (append-nil _))
    (both c.encode_varint.ensures
    (both (alike (ap varint c.numbers_len.ensures.value) c.encode_varint-2.ensures) c.encode_numbers.ensures))
