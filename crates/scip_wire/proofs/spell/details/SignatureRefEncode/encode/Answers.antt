use Rattle.std.proofs.Common.{subst}
use Rattle.scip_records.specs.declared.details.Signature.{Signature}
use Rattle.scip_wire.specs.Outputs.{IsPut}
use Rattle.scip_wire.specs.Spelling.{bytes_of, signature_fields}
use Rattle.scip_wire.proofs.OutputLemmas.{joined}
use Rattle.scip_wire.proofs.spell.details.SignatureRefEncode.encode.Goals as goal

pub returns : goal.returns
returns g c =
    subst (λ (one : Signature). IsPut g.O.Output.holds c.args.sink.now c.args.out.now c.encode_ref-2.new.sink
    c.encode_ref-2.new.out (bytes_of (signature_fields one))) c.self.view_is
    (joined _ _ c.encode_ref.ensures c.encode_ref-2.ensures)
