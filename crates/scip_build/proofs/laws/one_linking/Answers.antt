use Rattle.scip_build.proofs.LinkingLemmas.{one_linking}
use Rattle.scip_build.proofs.laws.one_linking.Goals as goal

pub returns : goal.returns
returns g c = λ faulty other dialect form.
    one_linking c.one_list_of_facts_a_file.ensures c.faults_exclude_facts.ensures.facts
    faulty other dialect form (g.C.Chooses.allows c.args.chooser.now) (g.D.Chooses.allows c.args.other.now)
