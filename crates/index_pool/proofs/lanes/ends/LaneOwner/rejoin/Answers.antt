use Rattle.index_pool.proofs.LaneLemmas.{merges}
use Rattle.index_pool.proofs.lanes.ends.LaneOwner.rejoin.Goals as goal

pub absorb-requires-clause-rule : goal.absorb-requires-clause-rule
absorb-requires-clause-rule c = merges _ _ _ _ c.args.self.now.owns c.args.thief.steals
