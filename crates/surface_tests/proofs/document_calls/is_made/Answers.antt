use Rattle.std.proofs.Common.{List, sym, subst}
use Rattle.proto_visibility.specs.Files.{File, IsSource}
use Rattle.scip_model.specs.Chosen.{HaveChoices}
use Rattle.scip_model.specs.Conditions.{HaveGoodPaths, HasText}
use Rattle.surface_tests.proofs.OneSourceLemmas.{is_source, has_text, good_paths}
use Rattle.surface_tests.proofs.document_calls.is_made.Goals as goal

pub externals-requires : goal.externals-requires
externals-requires c = record {
  choices =
      subst (λ (files : List File). HaveChoices files c.args.choices.now) (sym c.in_ok-linker.ensures)
      c.requires.choices;
}

pub document-requires-clause-source : goal.document-requires-clause-source
document-requires-clause-source c =
    subst (λ (files : List File). IsSource files 0) (sym c.in_ok-linker.ensures) (is_source c.args.facts.now)

pub document-requires-clause-text : goal.document-requires-clause-text
document-requires-clause-text c =
    subst (λ (files : List File). HasText files 0 c.args.text.now) (sym c.in_ok-linker.ensures)
    (has_text c.args.text.now c.args.facts.now c.requires.text)

pub document-requires-clause-paths : goal.document-requires-clause-paths
document-requires-clause-paths c =
    subst HaveGoodPaths (sym c.in_ok-linker.ensures) (good_paths c.args.facts.now)

pub document-requires-clause-choices : goal.document-requires-clause-choices
document-requires-clause-choices c =
    subst (λ (files : List File). HaveChoices files c.args.choices.now) (sym c.in_ok-linker.ensures) c.requires.choices
