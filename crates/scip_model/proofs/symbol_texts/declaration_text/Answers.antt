use Rattle.std.proofs.Common.{◌∙◌, true, false, List, ap, sym}
use Rattle.std.proofs.lemmas.Result.{IfOk-weaker}
use Rattle.proto_decl.specs.Laws.{component_names}
use Rattle.proto_decl.specs.declared.declaration.DeclarationStep.{DeclarationStep}
use Rattle.proto_decl.specs.declared.uses.Component.{Component}
use Rattle.scip_symbol.specs.Entities.{OfDeclaration}
use Rattle.scip_symbol.specs.Package.{Package}
use Rattle.scip_model.specs.Named.{text_of}
use Rattle.scip_model.proofs.OwnTextLemmas.{chosen-front}
use Rattle.scip_model.proofs.symbol_texts.declaration_text.Goals as goal

pub returns-then-repeated : goal.returns-then-repeated
returns-then-repeated c =
    let home = c.args.home.now in
    IfOk-weaker c.text_in_file.result _ _
    (λ text is. is ∙ ap (text_of home.id) (chosen-front home c.args.facts.now c.args.declaration.now true
    (sym c.in_ok-repeated.ensures ∙ c.if-repeated.true))) c.text_in_file.ensures

pub returns : goal.returns
unfolding text_of
returns c =
    let home = c.args.home.now in
    let facts = c.args.facts.now in
    let names = component_names facts.package_name in
    c.from_string.ensures
    ∙ (c.in_ok-printed.ensures
    ∙ (ap (λ (p : Package). text_of p (OfDeclaration (component_names c.package_name.result.now) c.path.result))
    c.id.ensures
    ∙ (ap (λ (cs : List Component). text_of home.id (OfDeclaration (component_names cs) c.path.result))
    c.package_name.ensures
    ∙ (ap (λ (path : List DeclarationStep). text_of home.id (OfDeclaration names path)) c.path.ensures
    ∙ ap (text_of home.id) (chosen-front home facts c.args.declaration.now false
    (sym c.in_ok-repeated.ensures ∙ c.if-repeated.false))))))
