use Rattle.std.proofs.Common.{arith}
use Rattle.scip_wire.specs.Spelling.{bytes_of, signature_fields}
use Rattle.scip_wire.proofs.SpellingRefLemmas.{empty_symbol}
use Rattle.scip_wire.proofs.OutputLemmas.{alike, nothing}
use Rattle.scip_wire.proofs.spell.details.encode_present_signature.Goals as goal

pub returns-else-encoded_len-ne0 : goal.returns-else-encoded_len-ne0
returns-else-encoded_len-ne0 g c =
    let bytes = bytes_of (signature_fields c.args.signature.now) in
    alike (empty_symbol c.args.number c.encoded_len.result bytes (omega (arith, c.if-encoded_len-ne0.false))
    c.encoded_len.ensures.value) nothing
