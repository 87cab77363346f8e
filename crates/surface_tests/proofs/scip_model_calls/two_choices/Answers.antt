use Rattle.std.proofs.Common.{◌≡◌, ◌∙◌, List, [], ◌∷◌, map, ap, sym, refl, subst}
use Rattle.std.specs.List.{slice_get}
use Rattle.index_hooks.specs.declared.choice.Choice.{Choice}
use Rattle.scip_model.specs.Chosen.{Chosen, HasChoice}
use Rattle.surface_tests.proofs.scip_model_calls.two_choices.Goals as goal

-- two lists of one choice each
of_two : (a b : List Choice) {x y : Choice} → a ≡ x ∷ [] → b ≡ y ∷ []
    → HasChoice (a ∷ b ∷ []) 0 0 × HasChoice (a ∷ b ∷ []) 1 0
of_two a b {x} {y} e f = (
  (x, record { of_file = a; file_is = refl; declaration_is = ap (λ list. slice_get list 0) e }),
  (y, record { of_file = b; file_is = refl; declaration_is = ap (λ list. slice_get list 0) f }),
)

pub returns : goal.returns
returns c =
    subst (λ (chosen : Chosen). HasChoice chosen 0 0 × HasChoice chosen 1 0)
    (sym (c.new.ensures ∙ ap (λ lists. map (λ list. list.items) lists) c.in_ok-lists.ensures.items))
    (of_two c.in_ok-kept.kept.items c.in_ok-dropped.dropped.items c.in_ok-kept.ensures c.in_ok-dropped.ensures)
