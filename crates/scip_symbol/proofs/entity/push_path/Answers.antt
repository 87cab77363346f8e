use Rattle.std.proofs.Common.{◌∙◌, ◌++◌, ◌∷◌, [], map, ap, sym}
use Rattle.std.proofs.lemmas.List.{append_assoc, map_push}
use Rattle.std.proofs.lemmas.Result.{on_ok_weaker}
use Rattle.scip_symbol.specs.Entities.{step_descriptor}
use Rattle.scip_symbol.proofs.entity.push_path.Goals as goal

pub returns : goal.returns
returns c =
    let old = c.args.descriptors.now.items in
    let outer = c.parts.result.0.now in
    let last = c.parts.result.1.now in
    on_ok_weaker c.push_step.result
    (λ added. added
    ∙ (ap (λ l. l ++ step_descriptor last ∷ []) c.in_ok-push_steps.ensures
    ∙ (append_assoc old (map step_descriptor outer) (step_descriptor last ∷ [])
    ∙ ap (λ l. old ++ l) (sym (map_push step_descriptor outer last)
    ∙ ap (map step_descriptor) (sym c.parts.ensures)))))
    c.push_step.ensures
