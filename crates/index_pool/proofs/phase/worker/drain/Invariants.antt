use Rattle.std.proofs.Common.{◌-◌, length}
use Rattle.index_pool.specs.LaneEnds.{owner_view}
use Rattle.index_pool.specs.Tables.PhaseSteps.{PoppedMore}
use Rattle.index_pool.proofs.phase.worker.drain.Given as goal

abbrev pub invariant-pops : goal.invariant-pops
invariant-pops l = PoppedMore l.initial.owner l.owner

abbrev pub decreases-pops : goal.decreases-pops
decreases-pops l = length (owner_view l.owner).given - length (owner_view l.owner).popped
