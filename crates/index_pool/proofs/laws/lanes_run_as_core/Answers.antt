use Rattle.index_pool.proofs.LaneRunsLemmas.{lanes_run}
use Rattle.index_pool.proofs.laws.lanes_run_as_core.Goals as goal

pub returns : goal.returns
returns c = lanes_run
