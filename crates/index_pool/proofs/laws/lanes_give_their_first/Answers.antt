use Rattle.index_pool.proofs.LaneOrderLemmas.{gives_its_first}
use Rattle.index_pool.proofs.laws.lanes_give_their_first.Goals as goal

pub returns : goal.returns
returns c = gives_its_first
