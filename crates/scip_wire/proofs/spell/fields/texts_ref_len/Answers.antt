use Rattle.std.proofs.Common.{◌∙◌, ap, sym, subst, List, ℕ, All, IsUtf8}
use Rattle.scip_wire.specs.Fields.{Field}
use Rattle.scip_wire.specs.Saturated.{saturated, fields_len}
use Rattle.scip_wire.specs.Spelling.{repeated_text_fields}
use Rattle.scip_wire.proofs.SpellingEncodeLemmas.{added}
use Rattle.scip_wire.proofs.SpellingRefLemmas.{ref_fields, ref_fit}
use Rattle.scip_wire.proofs.spell.fields.texts_ref_len.Goals as goal

pub returns-clause-value : goal.returns-clause-value
returns-clause-value c =
    let k = c.args.number in
    let parts = c.parts.result in
    let two = added _ _ _ _ _ c.ref_len-first_len.ensures.value c.ref_len-second_len.ensures.value
    c.saturating_add.ensures in
    added _ _ _ _ _ c.slice_len-len.ensures.value two c.saturating_add-2.ensures
    ∙ ap (λ (fields : List Field). saturated (fields_len fields))
    (ref_fields k parts.0.now parts.1.now parts.2.now ∙ ap (repeated_text_fields k) (sym c.parts.ensures))

pub returns-clause-fit : goal.returns-clause-fit
returns-clause-fit c =
    let parts = c.parts.result in
    subst (λ (texts : List (List ℕ)). All IsUtf8 texts) (sym c.parts.ensures)
    (ref_fit parts.0.now parts.1.now parts.2.now c.slice_len-len.ensures.fit c.ref_len-first_len.ensures.fit
    c.ref_len-second_len.ensures.fit)
