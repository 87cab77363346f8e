use Rattle.scip_join.proofs.QueryLemmas.{answers_the_union}
use Rattle.scip_join.proofs.laws.join_answers_the_union.Goals as goal

pub returns : goal.returns
returns c = answers_the_union
