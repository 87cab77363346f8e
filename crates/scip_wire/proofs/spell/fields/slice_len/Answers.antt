use Rattle.std.proofs.Common.{arith, [], ◌∷◌, ap, ◌∙◌, subst, IsUtf8}
use Rattle.basics.proofs.ListLemmas.{all_taken as fit_done}
use Rattle.scip_wire.specs.Spelling.{bytes_field}
use Rattle.scip_wire.specs.Saturated.{saturated, fields_len}
use Rattle.scip_wire.proofs.SaturatedLemmas.{len_further, len_done, fit_further}
use Rattle.scip_wire.proofs.spell.fields.slice_len.Goals as goal

pub texts-preserved : goal.texts-preserved
texts-preserved c =
    let before = c.texts.invariant in
    let text = c.as_str.ensures in
    let one = c.element_len.ensures.value
    ∙ ap (λ bytes. saturated (fields_len (bytes_field c.args.number bytes ∷ []))) text in
    let sum = len_further (bytes_field c.args.number) c.args.texts.now c.texts.text-index c.text-item.result c.texts.len
    _ _ _ c.texts-test.true c.text-item.is one c.saturating_add-len.ensures before.sum in
    let fit = fit_further IsUtf8 c.args.texts.now c.texts.text-index c.text-item.result c.texts-test.true c.text-item.is
    before.fit (subst IsUtf8 text c.element_len.ensures.fit) in
    record { fits = omega (arith, c.saturating_add-len.ensures); sum = sum; fit = fit }

pub returns : goal.returns
returns c =
    let last = c.texts.invariant in
    record {
      value = len_done (bytes_field c.args.number) c.args.texts.now c.texts.text-index c.texts.len _ c.texts-test.false
          last.fits last.sum;
      fit = fit_done IsUtf8 c.args.texts.now c.texts.text-index c.texts-test.false last.fit;
    }
