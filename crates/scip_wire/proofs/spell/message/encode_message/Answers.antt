use Rattle.std.proofs.Common.{arith}
use Rattle.scip_wire.proofs.spell.message.encode_message.Goals as goal

pub encode_message_of_len-requires-clause-len : goal.encode_message_of_len-requires-clause-len
encode_message_of_len-requires-clause-len g c = omega (arith, c.encoded_len.ensures.value, c.requires.short)
