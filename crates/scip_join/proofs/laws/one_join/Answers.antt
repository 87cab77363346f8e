use Rattle.scip_join.proofs.LawLemmas.{one_join}
use Rattle.scip_join.proofs.laws.one_join.Goals as goal

pub returns : goal.returns
returns c = one_join
