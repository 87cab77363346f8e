use Rattle.std.proofs.Common.{ap}
use Rattle.scip_wire.specs.Spelling.{bytes_of, text_fields}
use Rattle.scip_wire.proofs.OutputLemmas.{alike}
use Rattle.scip_wire.proofs.spell.fields.encode_text.Goals as goal

pub returns : goal.returns
returns g c = alike (ap (λ bytes. bytes_of (text_fields c.args.number bytes)) c.as_str.ensures) c.encode_ref.ensures
