use Rattle.scip_wire.proofs.OutputLemmas.{joined}
use Rattle.scip_wire.proofs.spell.records.IndexEncode.encode.Goals as goal

pub returns : goal.returns
returns g c = joined _ _
    (joined _ _ c.encode_optional_message.ensures c.encode_messages.ensures) c.encode_messages-2.ensures
