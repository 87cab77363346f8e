use Rattle.index_pool.proofs.LevelsLemmas.{alone_gathers}
use Rattle.index_pool.proofs.phase.levels.alone.Goals as goal

pub returns-clause-gathers : goal.returns-clause-gathers
returns-clause-gathers g c = alone_gathers _ _ _ c.work-post.ensures c.if-starved.false
