use Rattle.std.proofs.Common.{◌∙◌, [], ◌∷◌, length, map, ap, sym, subst}
use Rattle.scip_model.specs.Chosen.{HaveChoices}
use Rattle.surface_tests.specs.OneSource.{source_with}
use Rattle.surface_tests.proofs.OneSourceLemmas.{have_choices}
use Rattle.surface_tests.proofs.documents.choices_of.Goals as goal

pub returns : goal.returns
returns c =
    subst (HaveChoices (source_with c.args.facts.now ∷ []))
    (sym (c.new.ensures ∙ ap (λ lists. map (λ list. list.items) lists) c.in_ok-lists.ensures.items))
    (have_choices c.args.facts.now c.in_ok-list.list.items (c.in_ok-list.ensures ∙ ap length c.declarations.ensures))
