use Rattle.scip_build.proofs.LawLemmas.{one_first_faulty}
use Rattle.scip_build.proofs.laws.one_first_faulty.Goals as goal

pub returns : goal.returns
returns c = one_first_faulty c.faults_exclude_facts.ensures.facts
