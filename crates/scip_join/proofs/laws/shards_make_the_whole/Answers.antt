use Rattle.scip_join.proofs.LawShardLemmas.{make_the_whole}
use Rattle.scip_join.proofs.laws.shards_make_the_whole.Goals as goal

pub returns : goal.returns
returns c = make_the_whole
