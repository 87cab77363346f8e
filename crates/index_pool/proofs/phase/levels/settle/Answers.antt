use Rattle.std.proofs.Common.{◌+◌, sum_by, refl}
use Rattle.index_pool.specs.LaneEnds.{owner_view, thief_view}
use Rattle.index_pool.proofs.PhaseStepResultLemmas.{given_append}
use Rattle.index_pool.proofs.LevelsLemmas.{settle_weighs}
use Rattle.index_pool.proofs.phase.levels.settle.Goals as goal

pub returns-clause-settles : goal.returns-clause-settles
returns-clause-settles g c =
    let ours = c.args.done.results.items in
    let theirs = c.args.rest.results.items in
    let both = c.append.new.self.items in record {
      owner = refl;
      thief = refl;
      fed = c.if-starved.false;
      answers = λ a b. c.in_ok-close.ensures.answers
          (given_append ours theirs both c.in_ok-append.ensures.items (g.J.Job.gives c.args.task.now.job.now) a b);
      weighed = λ h. settle_weighs h ours theirs both c.close.new.results.items
          (sum_by h (owner_view c.args.done.post.owner).popped + sum_by h (thief_view c.args.rest.post.thief).stolen)
          (sum_by h (owner_view c.args.done.post.owner).given) c.in_ok-append.ensures.items
          (c.in_ok-close.ensures.weighed h);
    }
