use Rattle.index_pool.specs.LaneEnds.{owner_view, thief_view}
use Rattle.index_pool.specs.declared.phase.worker.Post.{Post}
use Rattle.index_pool.proofs.LaneEndsLemmas.{fresh_owner, fresh_thief, below_more_inputs, popped_below}
use Rattle.index_pool.proofs.LevelsLemmas.{run_ends}
use Rattle.index_pool.proofs.phase.run_lanes.Goals as goal

pub start_all-requires-clause-post : goal.start_all-requires-clause-post
start_all-requires-clause-post g c = λ _ _.
    let n = g.J.Job.inputs c.args.task.now.job.now in
    let owner = fresh_owner c.args.inputs c.args.workers 0 c.in-Ok.owner c.in-Ok.ensures.owner in
    let thief = fresh_thief c.args.inputs c.args.workers 0 c.in-Ok.thief c.in-Ok.ensures.thief
    c.in-Ok.ensures.tries in (
      (owner.0, below_more_inputs c.args.inputs n (owner_view c.in-Ok.owner).given c.requires.known owner.1),
      (
        thief.0,
        below_more_inputs c.args.inputs n (thief_view c.in-Ok.thief).given c.requires.known thief.1,
        thief.2,
      ),
    )

pub close-requires-clause-below : goal.close-requires-clause-below
close-requires-clause-below g c = λ _ _.
    let n = g.J.Job.inputs c.args.task.now.job.now in
    let owner = fresh_owner c.args.inputs c.args.workers 0 c.in-Ok.owner c.in-Ok.ensures.owner in
    popped_below n c.in-Ok.owner c.in_ok-gathered.gathered.post.owner c.in_ok-gathered.ensures.gathers.owner
    (below_more_inputs c.args.inputs n (owner_view c.in-Ok.owner).given c.requires.known owner.1)

pub returns-clause-ran : goal.returns-clause-ran
returns-clause-ran g c =
    let post : Post = record { owner = c.in-Ok.owner; thief = c.in-Ok.thief } in
    run_ends (g.J.Job.gives c.args.task.now.job.now) c.args.inputs c.args.workers post c.in-Ok-further_lanes.lanes.items
    c.in_ok-gathered.gathered c.close.new.results.items
    c.in-Ok.ensures.owner c.in_ok-gathered.ensures.gathers c.in-Ok-further_lanes.ensures.whole
    c.in_ok-close.ensures.answers c.in_ok-close.ensures.weighed
