use Rattle.index_pool.proofs.phase.levels.+level.Given as goal

abbrev pub decreases-level : goal.decreases-level
decreases-level g l = l.starts
