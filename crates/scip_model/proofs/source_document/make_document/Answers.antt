use Rattle.std.proofs.Common.{◌∙◌, ap, sym, refl, List}
use Rattle.std.specs.List.{slice_get}
use Rattle.proto_lex.specs.declared.span.Span.{Span}
use Rattle.scip_model.proofs.ConditionUnresolvedLemmas.{all_resolve, first_unresolved}
use Rattle.scip_model.proofs.source_document.make_document.Goals as goal

pub returns-in-None-clause-resolved : goal.returns-in-None-clause-resolved
returns-in-None-clause-resolved c =
    all_resolve c.args.maker.now.package.now.files c.args.maker.now.source c.in_ok-document.field-0.unresolved
    c.in_ok-document.ensures.unresolved_uses
    (ap (λ (list : List Span). slice_get list 0) (sym c.as_slice.ensures) ∙ sym c.in-None.ensures)

pub returns-in-Some-clause-refused : goal.returns-in-Some-clause-refused
returns-in-Some-clause-refused c = (
  refl,
  first_unresolved c.args.maker.now.package.now.files c.args.maker.now.source c.in_ok-document.field-0.unresolved
      c.in-Some.span c.in_ok-document.ensures.unresolved_uses
      (ap (λ (list : List Span). slice_get list 0) (sym c.as_slice.ensures) ∙ sym c.in-Some.ensures),
)
