use Rattle.scip_join.proofs.QueryLemmas.{answers_by_document}
use Rattle.scip_join.proofs.laws.answers_are_by_document.Goals as goal

pub returns : goal.returns
returns c = answers_by_document
