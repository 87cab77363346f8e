use Rattle.index_pool.proofs.LaneNumbersLemmas.{keeps_its_numbers}
use Rattle.index_pool.proofs.laws.lanes_keep_their_numbers.Goals as goal

pub returns : goal.returns
returns c = keeps_its_numbers
