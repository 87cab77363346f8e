use Rattle.std.proofs.Common.{◌∙◌, subst, sym, List}
use Rattle.proto_lex.specs.declared.span.Span.{Span}
use Rattle.scip_model.specs.Conditions.{AreUnresolvedUses}
use Rattle.scip_model.specs.Indexes.{IsDocumentOf}
use Rattle.scip_model.proofs.source_document.document_and_unresolved.Goals as goal

pub returns-clause-document : goal.returns-clause-document
returns-clause-document c =
    let maker = c.args.maker.now in
    subst (IsDocumentOf maker.package.now.files maker.choices.now maker.package.now.ids maker.encoding maker.source maker.text.now)
    (sym (c.in_ok-document.ensures ∙ c.into_parts-plan.ensures.document)) c.in_ok-planned.ensures.document

pub returns-clause-unresolved_uses : goal.returns-clause-unresolved_uses
returns-clause-unresolved_uses c =
    subst (λ (spans : List Span). AreUnresolvedUses c.args.maker.now.package.now.files c.args.maker.now.source spans)
    (sym c.into_parts-plan.ensures.unresolved) c.in_ok-planned.ensures.unresolved_uses
