use Rattle.index_pool.proofs.CoreLanesLemmas.{shows_lanes}
use Rattle.index_pool.proofs.laws.core_shows_lanes.Goals as goal

pub returns : goal.returns
returns c = shows_lanes
