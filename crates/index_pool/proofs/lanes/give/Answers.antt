use Rattle.index_pool.proofs.LaneLemmas.{gives}
use Rattle.index_pool.proofs.lanes.give.Goals as goal

pub push_as-requires-clause-pushes : goal.push_as-requires-clause-pushes
push_as-requires-clause-pushes c = gives _ _ _ c.requires.both.0 c.requires.both.1
