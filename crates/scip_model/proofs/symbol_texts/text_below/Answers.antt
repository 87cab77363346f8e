use Rattle.std.proofs.Common.{◌∙◌, ap, List}
use Rattle.proto_decl.specs.Laws.{component_names}
use Rattle.proto_decl.specs.declared.declaration.DeclarationStep.{DeclarationStep}
use Rattle.scip_symbol.specs.Entities.{OfDeclaration}
use Rattle.scip_model.specs.Named.{text_of}
use Rattle.scip_model.proofs.OwnTextLemmas.{usual}
use Rattle.scip_model.proofs.symbol_texts.text_below.Goals as goal

pub returns : goal.returns
unfolding text_of
returns c =
    let home = c.args.home.now in
    let facts = c.args.facts.now in
    let names = component_names facts.package_name in
    let none = c.is_usual.ensures.0 c.if-not-is_usual.false in
    c.from_string.ensures
    ∙ (c.in_ok-printed.ensures home.id names (c.requires.front.usual none)
    ∙ (ap (λ (path : List DeclarationStep). text_of home.id (OfDeclaration names path)) c.path.ensures
    ∙ ap (text_of home.id) (usual home facts c.args.declaration.now none)))
