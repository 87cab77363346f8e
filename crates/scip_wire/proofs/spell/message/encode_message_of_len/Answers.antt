use Rattle.std.proofs.Common.{sym, ap, append-nil}
use Rattle.scip_wire.specs.Spelling.{varint}
use Rattle.scip_wire.proofs.OutputLemmas.{alike, both}
use Rattle.scip_wire.proofs.spell.message.encode_message_of_len.Goals as goal

pub returns : goal.returns
returns g c =
    alike (sym (append-nil _))
    (both c.encode_varint.ensures (both (alike (ap varint c.requires.len) c.encode_varint-2.ensures) c.encode.ensures))
