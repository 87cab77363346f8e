use Rattle.std.proofs.Common.{sym, append-nil}
use Rattle.scip_wire.proofs.OutputLemmas.{alike, both}
use Rattle.scip_wire.proofs.spell.fields.encode_record.Goals as goal

pub returns : goal.returns
returns g c = alike (sym (append-nil _)) (both c.encode_varint.ensures (both c.encode_varint-2.ensures c.put.ensures))
