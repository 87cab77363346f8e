use Rattle.scip_wire.proofs.OutputLemmas.{both}
use Rattle.scip_wire.proofs.spell.pieces.encode_pieces.Goals as goal

pub returns : goal.returns
returns g c = both (both c.encode_optional_message.ensures c.encode_records.ensures) c.encode_messages.ensures
