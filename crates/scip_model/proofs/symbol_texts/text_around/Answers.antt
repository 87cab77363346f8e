use Rattle.std.proofs.Common.{◌∙◌, sym, ap, Bool, cond, ◌∷◌}
use Rattle.std.proofs.lemmas.Result.{IfOk-weaker}
use Rattle.proto_decl.specs.Laws.{component_names}
use Rattle.scip_symbol.specs.Package.{Package}
use Rattle.scip_model.specs.Detailed.{path_around, symbol_around}
use Rattle.scip_model.specs.Repeated.{file_namespace}
use Rattle.scip_model.proofs.AroundLemmas.{text_of_outer}
use Rattle.scip_model.proofs.symbol_texts.text_around.Goals as goal

pub returns-then-in_front : goal.returns-then-in_front
returns-then-in_front c =
    let home = c.args.home.now in
    let names = component_names c.args.facts.now.package_name in
    let path = path_around c.args.declaration.now.path in
    let file = file_namespace home.path in
    IfOk-weaker c.steps_text_in_file.result _ _
    (λ text is. is
    ∙ (text_of_outer home.id (file ∷ names) c.args.declaration.now c.parts.result.0.now c.parts.result.1.now
    (sym c.path-path.ensures ∙ c.parts.ensures)
    ∙ ap (λ (b : Bool). symbol_around home.id (cond b (file ∷ names) names) path)
    (sym c.if-in_front.true ∙ c.in_ok-in_front.ensures)))
    c.steps_text_in_file.ensures

pub returns : goal.returns
returns c =
    let home = c.args.home.now in
    let names = component_names c.args.facts.now.package_name in
    let path = path_around c.args.declaration.now.path in
    let file = file_namespace home.path in
    IfOk-weaker c.steps_text.result _ _
    (λ text is. is
    ∙ (ap (λ (p : Package). symbol_around p names c.parts.result.0.now) c.id.ensures
    ∙ (text_of_outer home.id names c.args.declaration.now c.parts.result.0.now c.parts.result.1.now
    (sym c.path-path.ensures ∙ c.parts.ensures)
    ∙ ap (λ (b : Bool). symbol_around home.id (cond b (file ∷ names) names) path)
    (sym c.if-in_front.false ∙ c.in_ok-in_front.ensures))))
    c.steps_text.ensures
