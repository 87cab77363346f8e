use Rattle.std.proofs.Common.{ap, ◌∙◌, [], ◌∷◌}
use Rattle.scip_wire.specs.Spelling.{bytes_of, bytes_field}
use Rattle.scip_wire.proofs.OutputLemmas.{alike, both, nothing, records_more, records_done}
use Rattle.scip_wire.proofs.spell.fields.encode_slice.Goals as goal

pub texts-preserved : goal.texts-preserved
texts-preserved g c =
    let k = c.args.number in
    let step = alike (ap (λ bytes. bytes_of (bytes_field k bytes ∷ [])) (c.as_bytes.ensures.value ∙ c.as_str.ensures))
    c.encode_record.ensures in
    λ sink out left. c.texts.invariant sink out
    (alike (records_more (bytes_field k) c.args.texts.now c.texts.text-index c.text-item.result c.texts-test.true
    c.text-item.is) (both step left))

pub returns : goal.returns
returns g c = c.texts.invariant _ _
    (alike (records_done (bytes_field c.args.number) c.args.texts.now c.texts.text-index c.texts-test.false) nothing)
