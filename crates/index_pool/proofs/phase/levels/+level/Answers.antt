use Rattle.std.proofs.Common.{◌≡◌, ◌≤◌, ◌<◌, length, subst, arith}
use Rattle.std.proofs.lemmas.Result.{IfOk-weaker, IfErr-weaker}
use Rattle.index_pool.specs.declared.phase.worker.Post.{Post}
use Rattle.index_pool.specs.declared.phase.fault.Stop.TheVariants.{Memory}
use Rattle.index_pool.specs.Tables.PhaseSteps.{Worked, Gathers, Settles, MayStop}
use Rattle.index_pool.proofs.LevelsLemmas.{rest_fresh, theirs_fresh, ours_fresh, same_lane, done_below, level_gathers}
use Rattle.index_pool.proofs.LevelsLemmas.{one_lane_more, memory_stops}
use Rattle.index_pool.proofs.phase.levels.+level.Goals as goal

pub start-requires-after_bounds : goal.start-requires-after_bounds
start-requires-after_bounds g t c =
    λ _ _. theirs_fresh (g.J.Job.inputs c.args.task.now.job.now) c.args.post c.args.lanes.items c.pop.new.self.items
    c.in-Some.last c.in-Some.ensures.items c.requires.post c.requires.lanes c.swapped-theirs.result.0
    c.swapped-theirs.ensures.theirs

pub level-rest-requires-clause-post : goal.level-rest-requires-clause-post
level-rest-requires-clause-post g t c =
    λ _ _. ours_fresh (g.J.Job.inputs c.args.task.now.job.now) c.args.post c.args.lanes.items c.pop.new.self.items
    c.in-Some.last c.in-Some.ensures.items c.requires.post c.requires.lanes c.swapped-theirs.result.1
    c.swapped-theirs.ensures.ours

pub level-rest-requires-clause-lanes : goal.level-rest-requires-clause-lanes
level-rest-requires-clause-lanes g t c =
    λ _ _. rest_fresh (g.J.Job.inputs c.args.task.now.job.now) c.args.post c.args.lanes.items c.pop.new.self.items
    c.in-Some.last c.in-Some.ensures.items c.requires.post c.requires.lanes

pub settle-requires-clause-deque : goal.settle-requires-clause-deque
settle-requires-clause-deque g t c =
    let started = c.in-Some-start.ensures in
    let gives = g.J.Job.gives c.args.task.now.job.now in
    let worked : Worked gives c.swapped-theirs.result.0 c.join-done.result =
    subst (λ (p : Post). Worked gives p c.join-done.result) started.1
    (subst (λ j. Worked (g.J.Job.gives j) c.in-Some-start.child.promise.post.value c.join-done.result) started.0
    c.join-done.ensures) in
    λ _ _. same_lane (g.J.Job.inputs c.args.task.now.job.now) c.args.post c.args.lanes.items c.pop.new.self.items
    c.in-Some.last c.in-Some.ensures.items c.requires.post c.requires.lanes gives c.swapped-theirs.result.0
    c.swapped-theirs.result.1 c.join-done.result c.in_ok-rest.field-0 c.swapped-theirs.ensures.theirs
    c.swapped-theirs.ensures.ours worked c.in_ok-rest.ensures.gathers

pub settle-requires-clause-below : goal.settle-requires-clause-below
settle-requires-clause-below g t c =
    let started = c.in-Some-start.ensures in
    let gives = g.J.Job.gives c.args.task.now.job.now in
    let worked : Worked gives c.swapped-theirs.result.0 c.join-done.result =
    subst (λ (p : Post). Worked gives p c.join-done.result) started.1
    (subst (λ j. Worked (g.J.Job.gives j) c.in-Some-start.child.promise.post.value c.join-done.result) started.0
    c.join-done.ensures) in
    λ _ _. done_below (g.J.Job.inputs c.args.task.now.job.now) c.args.post c.args.lanes.items c.pop.new.self.items
    c.in-Some.last c.in-Some.ensures.items c.requires.post c.requires.lanes gives c.swapped-theirs.result.0
    c.join-done.result c.swapped-theirs.ensures.theirs worked

pub returns-clause-gathers : goal.returns-clause-gathers
returns-clause-gathers g t c =
    let started = c.in-Some-start.ensures in
    let gives = g.J.Job.gives c.args.task.now.job.now in
    let worked : Worked gives c.swapped-theirs.result.0 c.join-done.result =
    subst (λ (p : Post). Worked gives p c.join-done.result) started.1
    (subst (λ j. Worked (g.J.Job.gives j) c.in-Some-start.child.promise.post.value c.join-done.result) started.0
    c.join-done.ensures) in
    IfOk-weaker c.settle.result (Settles gives c.join-done.result c.in_ok-rest.field-0)
    (Gathers gives c.args.post c.args.lanes.items)
    (λ all settles. level_gathers
    (g.J.Job.inputs c.args.task.now.job.now) c.args.post c.args.lanes.items c.pop.new.self.items c.in-Some.last
    c.in-Some.ensures.items c.requires.post c.requires.lanes gives c.swapped-theirs.result.0
    c.swapped-theirs.result.1 c.join-done.result c.in_ok-rest.field-0 all c.swapped-theirs.ensures.theirs
    c.swapped-theirs.ensures.ours worked c.in_ok-rest.ensures.gathers settles) c.settle.ensures.settles

pub returns-clause-started : goal.returns-clause-started
returns-clause-started g t c =
    let some : 0 < c.args.starts = c.in-Some-start.ensures.2 in
    let rest = c.in_ok-rest.ensures.started in
    let more = one_lane_more c.args.lanes.items c.pop.new.self.items c.in-Some.last c.in-Some.ensures.items in
    let enough : length c.args.lanes.items ≤ c.args.starts = omega arith in
    IfOk-weaker c.settle.result
    (Settles (g.J.Job.gives c.args.task.now.job.now) c.join-done.result c.in_ok-rest.field-0)
    (λ _. length c.args.lanes.items ≤ c.args.starts) (λ _ _. enough) c.settle.ensures.settles

pub returns-clause-stopped : goal.returns-clause-stopped
returns-clause-stopped g t c =
    let some : 0 < c.args.starts = c.in-Some-start.ensures.2 in
    let rest = c.in_ok-rest.ensures.started in
    let more = one_lane_more c.args.lanes.items c.pop.new.self.items c.in-Some.last c.in-Some.ensures.items in
    let enough : length c.args.lanes.items ≤ c.args.starts = omega arith in
    IfErr-weaker c.settle.result (λ stop. stop ≡ Memory) (MayStop c.args.post (length c.args.lanes.items) c.args.starts)
    (memory_stops c.args.post (length c.args.lanes.items) c.args.starts enough) c.settle.ensures.stopped
