use Rattle.index_pool.proofs.LevelsLemmas.{close_weighs}
use Rattle.index_pool.proofs.phase.levels.close.Goals as goal

pub returns-clause-weighed : goal.returns-clause-weighed
returns-clause-weighed g c =
    close_weighs c.args.owner c.rejoin.new.self c.run_own.new.owner c.args.thief c.args.results.now.items
    c.run_own.new.results.items c.rejoin.ensures.view c.in_ok-run_own.ensures.weighed c.in_ok-run_own.ensures.whole
