use Rattle.std.proofs.Common.{refl, arith}
use Rattle.std.proofs.lemmas.Result.{IfOk-weaker, IfErr-weaker}
use Rattle.index_pool.specs.Phase.{AnswersEach, MayRefuse}
use Rattle.index_pool.specs.Tables.PhaseSteps.{IsAmong}
use Rattle.index_pool.proofs.PhaseStepResultLemmas.{given_among}
use Rattle.index_pool.proofs.InOrderLemmas.{answers_weaker, refusal_weaker, each_is_run}
use Rattle.index_pool.proofs.phase.run_phase_refusing.Goals as goal

pub returns-in-Ok-clause-answers : goal.returns-in-Ok-clause-answers
returns-in-Ok-clause-answers g c =
    let gives = g.J.Job.gives c.args.task.now.job.now in
    let among = IsAmong c.in-Ok.results.items in
    IfOk-weaker c.in_order.result (λ outs. AnswersEach among c.args.inputs outs.items)
    (λ outs. AnswersEach gives c.args.inputs outs.items)
    (λ outs. answers_weaker among gives c.args.inputs c.args.inputs refl
    (given_among gives c.in-Ok.results.items c.in-Ok.ensures.ran.0) outs.items) c.in_order.ensures.answers

pub returns-in-Ok-clause-refused : goal.returns-in-Ok-clause-refused
returns-in-Ok-clause-refused g c =
    let gives = g.J.Job.gives c.args.task.now.job.now in
    let among = IsAmong c.in-Ok.results.items in
    IfErr-weaker c.in_order.result (MayRefuse among c.args.inputs 1) (MayRefuse gives c.args.inputs c.args.workers)
    (refusal_weaker among gives c.args.inputs c.args.inputs c.args.workers refl
    (given_among gives c.in-Ok.results.items c.in-Ok.ensures.ran.0)) c.in_order.ensures.refused

pub returns-in-Ok-clause-ran : goal.returns-in-Ok-clause-ran
returns-in-Ok-clause-ran g c =
    each_is_run (g.J.Job.gives c.args.task.now.job.now) c.args.inputs c.in-Ok.results.items c.in-Ok.ensures.ran
    c.in_order.result

pub returns-in-Ok-clause-spawn : goal.returns-in-Ok-clause-spawn
returns-in-Ok-clause-spawn g c = λ due.
    absurd (let late = c.starts_before.ensures c.args.workers due in let all = c.in-Ok.ensures.started in omega arith)
