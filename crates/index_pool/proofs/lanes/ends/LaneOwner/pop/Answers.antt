use Rattle.index_pool.proofs.LaneLemmas.{pops, finds}
use Rattle.index_pool.proofs.lanes.ends.LaneOwner.pop.Goals as goal

pub pop_as-requires-clause-fifo : goal.pop_as-requires-clause-fifo
pop_as-requires-clause-fifo c = λ _. pops _ _ c.args.self.now.owns

pub pop_as-requires-clause-empty : goal.pop_as-requires-clause-empty
pop_as-requires-clause-empty c = finds _ _ c.args.self.now.owns
