use Rattle.scip_build.proofs.BuildLawOneBuiltLemmas.{one_told_of_tree}
use Rattle.scip_build.proofs.laws.one_told.Goals as goal

pub returns : goal.returns
returns g c =
    one_told_of_tree c.one_list_of_facts_a_file.ensures c.one_beside_a_file.ensures c.faults_exclude_facts.ensures.facts
    c.one_fault_a_file.ensures c.one_omission_list.ensures (g.C.Chooses.allows c.args.chooser.now)
    (g.D.Chooses.allows c.args.other.now)
