use Rattle.std.proofs.Common.{◌≡◌, ◌∙◌, ◌++◌, ◌∷◌, [], List, map, ap, sym, append-nil}
use Rattle.std.specs.String.{string_bytes}
use Rattle.std.proofs.lemmas.List.{append_assoc, map_push}
use Rattle.std.proofs.lemmas.Grind.{flat_map-append}
use Rattle.std.proofs.lemmas.Result.{on_ok_weaker}
use Rattle.proto_decl.specs.declared.declaration.DeclarationStep.{DeclarationStep}
use Rattle.scip_symbol.specs.SymbolText.{descriptor_text}
use Rattle.scip_symbol.specs.Entities.{step_descriptor}
use Rattle.scip_symbol.specs.EntityTexts.{steps_text}
use Rattle.scip_symbol.proofs.entity_text.push_path.Goals as goal

-- the text of steps and of one more
one_more : (outer : List DeclarationStep) (last : DeclarationStep)
    → steps_text (outer ++ last ∷ []) ≡ steps_text outer ++ descriptor_text (step_descriptor last)
one_more outer last =
    rw (
      map_push step_descriptor outer last,
      flat_map-append descriptor_text (map step_descriptor outer) (step_descriptor last ∷ []),
    )
    (ap (λ t. steps_text outer ++ t) (append-nil (descriptor_text (step_descriptor last))))

pub returns : goal.returns
returns c =
    let old = string_bytes c.args.out.now in
    let outer = c.parts.result.0.now in
    let last = c.parts.result.1.now in
    on_ok_weaker c.push_step.result
    (λ added. added
    ∙ (ap (λ t. t ++ descriptor_text (step_descriptor last)) c.in_ok-push_steps.ensures
    ∙ (append_assoc old (steps_text outer) (descriptor_text (step_descriptor last))
    ∙ ap (λ t. old ++ t) (sym (one_more outer last) ∙ ap steps_text (sym c.parts.ensures)))))
    c.push_step.ensures
