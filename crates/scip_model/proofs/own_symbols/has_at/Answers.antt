use Rattle.std.proofs.Common.{◌≡◌, ◌∙◌, sym, ap, refl, Some, length}
use Rattle.std.specs.List.{slice_get}
use Rattle.std.proofs.lemmas.Slice.Eq.{bytes_eq-Decides}
use Rattle.std.proofs.lemmas.Bool.{false≢true}
use Rattle.std.proofs.lemmas.Option.{slice_get_read, slice_get_past, none-some, same_Some}
use Rattle.scip_model.proofs.own_symbols.has_at.Goals as goal

pub returns-in-Some : goal.returns-in-Some
returns-in-Some c =
    let texts = c.args.texts.now in
    let its = c.in-Some.its.now in
    let got = c.in-Some.ensures.lookup in
    let there : slice_get texts c.args.number ≡ Some its =
    slice_get_read texts (length texts) c.args.number its refl got.3.0 got.1 in (
      λ same. there ∙ ap Some (sym c.as_str.ensures ∙ (bytes_eq-Decides _ _).0 (sym c.eq.ensures ∙ same)),
      λ is. c.eq.ensures ∙ (bytes_eq-Decides _ _).1 (c.as_str.ensures ∙ same_Some _ _ (sym there ∙ is)),
    )

pub returns-in-None : goal.returns-in-None
returns-in-None c = (
  λ same. absurd (false≢true same),
  λ is. absurd (none-some _ (sym (slice_get_past c.args.texts.now c.args.number c.in-None.ensures.lookup.3) ∙ is)),
)
