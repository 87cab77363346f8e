use Rattle.std.proofs.Common.{List, sym, subst}
use Rattle.proto_visibility.specs.Files.{File, IsSource}
use Rattle.scip_model.specs.Chosen.{HaveChoices}
use Rattle.scip_model.specs.Conditions.{HaveGoodPaths, HasText}
use Rattle.surface_tests.proofs.OneSourceLemmas.{is_source, has_text, good_paths}
use Rattle.surface_tests.proofs.documents.is_linked_right.Goals as goal

pub is_listed-requires-clause-source : goal.is_listed-requires-clause-source
is_listed-requires-clause-source c =
    subst (λ (files : List File). IsSource files 0) (sym c.in_ok-linker.ensures) (is_source c.args.facts.now)

pub is_listed-requires-clause-text : goal.is_listed-requires-clause-text
is_listed-requires-clause-text c =
    subst (λ (files : List File). HasText files 0 c.args.text.now) (sym c.in_ok-linker.ensures)
    (has_text c.args.text.now c.args.facts.now c.requires.text)

pub is_listed-requires-clause-paths : goal.is_listed-requires-clause-paths
is_listed-requires-clause-paths c =
    subst HaveGoodPaths (sym c.in_ok-linker.ensures) (good_paths c.args.facts.now)

pub is_listed-requires-clause-choices : goal.is_listed-requires-clause-choices
is_listed-requires-clause-choices c =
    subst (λ (files : List File). HaveChoices files c.args.choices.now) (sym c.in_ok-linker.ensures) c.requires.choices
