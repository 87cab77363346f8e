use Rattle.std.proofs.Common.{ap}
use Rattle.index_pool.proofs.LaneLemmas.{forks}
use Rattle.index_pool.proofs.lanes.lane.Goals as goal

pub another-pass-requires : goal.another-pass-requires
another-pass-requires c =
    forks _ _ (ap (λ v. v.owns) c.in_ok-deque.ensures.view) (ap (λ v. v.steals) c.in_ok-deque.ensures.view)
