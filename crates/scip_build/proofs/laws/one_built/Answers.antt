use Rattle.scip_build.proofs.BuildLawOneBuiltLemmas.{one_built_of_choices, one_built}
use Rattle.scip_build.proofs.laws.one_built.Goals as goal

pub returns-clause-of_choices : goal.returns-clause-of_choices
returns-clause-of_choices g c =
    one_built_of_choices c.one_list_of_facts_a_file.ensures c.one_beside_a_file.ensures
    c.faults_exclude_facts.ensures.facts
    c.one_fault_a_file.ensures c.one_omission_list.ensures
    (g.C.Chooses.allows c.args.chooser.now) (g.D.Chooses.allows c.args.other.now) c.one_index.ensures.indexes

pub returns-clause-one : goal.returns-clause-one
returns-clause-one g c =
    one_built c.one_list_of_facts_a_file.ensures c.one_beside_a_file.ensures c.faults_exclude_facts.ensures.facts
    c.one_fault_a_file.ensures c.one_omission_list.ensures
    (g.C.Chooses.allows c.args.chooser.now) (g.D.Chooses.allows c.args.other.now) c.one_index.ensures.indexes
