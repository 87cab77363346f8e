use Rattle.std.proofs.Common.{◌∙◌, ap, sym}
use Rattle.scip_wire.specs.Spelling.{bytes_of, repeated_text_fields}
use Rattle.scip_wire.proofs.OutputLemmas.{alike, joined}
use Rattle.scip_wire.proofs.SpellingRefLemmas.{ref_fields}
use Rattle.scip_wire.proofs.spell.fields.encode_texts_ref.Goals as goal

pub returns : goal.returns
returns g c =
    let k = c.args.number in
    let parts = c.parts.result in
    alike (ap bytes_of
    (ref_fields k parts.0.now parts.1.now parts.2.now ∙ ap (repeated_text_fields k) (sym c.parts.ensures)))
    (joined _ _ c.encode_slice.ensures (joined _ _ c.encode_ref.ensures c.encode_ref-2.ensures))
