-- What is built of a part is what is built of the whole, by the laws of trees, of names, and of what is read.
use Rattle.proto_visibility.proofs.DuplicateLemmas.{clear_each}
use Rattle.scip_build.specs.FactForms.{form_of}
use Rattle.scip_build.proofs.KeptTreeLemmas.{all_linked}
use Rattle.scip_build.proofs.PartLawLemmas.{parts_are_built_alike}
use Rattle.scip_build.proofs.ReadyLemmas.{have_origins, whole_at}
use Rattle.scip_build.proofs.laws.parts_are_built_alike.Goals as goal

pub returns : goal.returns
returns g c =
    let allows = g.C.Chooses.allows c.args.chooser.now in
    parts_are_built_alike allows (record {
      facts = c.one_list_of_facts_a_file.ensures;
      beside = c.one_beside_a_file.ensures;
      unread = c.faults_exclude_facts.ensures.facts;
      told = c.nothing_is_left_out_of_a_good_tree.ensures.told;
      left = c.nothing_is_left_out_of_good_files.ensures;
      linked = all_linked;
      repeated = c.nothing_is_repeated.ensures;
      paths = c.parsed_files_have_own_paths.ensures;
      origins = λ all is.
          have_origins is.all (whole_at all.settings.faulty all.settings.dialect (form_of all.settings) allows all.tree
          is.all is.read);
      clear_each = clear_each;
      one_name = c.one_declaration_a_name.ensures.declarations;
      spelled = record {
        named = c.names_are_identifiers.ensures.named;
        paths = c.names_are_identifiers.ensures.paths;
        held = c.names_are_identifiers.ensures.held;
      };
      symbols = c.symbols_name_one_entity_in_packages.ensures;
      targets = c.targets_are_reachable.ensures;
    })
