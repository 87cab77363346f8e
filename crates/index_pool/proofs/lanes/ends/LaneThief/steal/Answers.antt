use Rattle.std.proofs.Common.{ap}
use Rattle.std.specs.Prelude.{min}
use Rattle.index_pool.proofs.LaneLemmas.{steals, finds_few}
use Rattle.index_pool.proofs.lanes.ends.LaneThief.steal.Goals as goal

pub steal_as-requires-clause-takes : goal.steal_as-requires-clause-takes
steal_as-requires-clause-takes c = steals _ _ c.args.self.now.steals

pub steal_as-requires-clause-empty : goal.steal_as-requires-clause-empty
steal_as-requires-clause-empty c =
    finds_few _ _ _ (ap (λ flavor. min flavor 1) c.args.self.now.fifo) c.args.self.now.steals
