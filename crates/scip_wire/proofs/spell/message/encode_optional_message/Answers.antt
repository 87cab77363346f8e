use Rattle.scip_wire.specs.Spelling.{bytes_of, optional_message_fields}
use Rattle.std.proofs.Common.{sym, ap}
use Rattle.scip_wire.proofs.OutputLemmas.{alike, nothing}
use Rattle.scip_wire.proofs.spell.message.encode_optional_message.Goals as goal

pub returns-in_default : goal.returns-in_default
returns-in_default g c =
    alike (ap (λ message. bytes_of (optional_message_fields c.args.number g.M.Encode.fields message))
    (sym c.in_default.is)) nothing
