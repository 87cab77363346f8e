use Rattle.std.proofs.Common.{◌∙◌, [], ap, sym}
use Rattle.basics.proofs.BoolLemmas.{never}
use Rattle.proto_decl.specs.Laws.{component_names}
use Rattle.scip_symbol.specs.Entities.{OfPackage}
use Rattle.scip_symbol.specs.Package.{Package}
use Rattle.scip_model.specs.Named.{text_of}
use Rattle.scip_model.proofs.OwnTextLemmas.{usual-front, head-front}
use Rattle.scip_model.proofs.symbol_texts.front_of.Goals as goal

pub returns-then-is_usual : goal.returns-then-is_usual
returns-then-is_usual c =
    let facts = c.args.facts.now in
    usual-front c.args.home.now facts c.in_ok-front.front (c.is_usual.ensures.0 c.if-is_usual.true)
    (c.in_ok-front.ensures
    ∙ ap (λ (p : Package). text_of p (OfPackage (component_names facts.package_name))) c.id.ensures)

pub returns : goal.returns
unfolding text_of
returns c =
    head-front c.args.home.now c.args.facts.now c.from_string.result
    (λ none. never (sym c.if-is_usual.false ∙ c.is_usual.ensures.1 none))
    (c.from_string.ensures
    ∙ (c.in_ok-printed.ensures ∙ ap (λ (p : Package). text_of p (OfPackage [])) c.id-2.ensures))
