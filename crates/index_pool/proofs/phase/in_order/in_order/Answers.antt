use Rattle.std.proofs.Common.{length}
use Rattle.std.proofs.lemmas.Result.{IfOk-weaker, IfErr-weaker}
use Rattle.index_pool.specs.Phase.{AnswersEach, MayRefuse}
use Rattle.index_pool.specs.Tables.PhaseSteps.{IsAmong, HasResult}
use Rattle.index_pool.proofs.InOrderLemmas.{answers_weaker, refusal_weaker, filled_among, filled_full}
use Rattle.index_pool.proofs.phase.in_order.in_order.Goals as goal

pub first_fault_or_all-requires-clause-filled : goal.first_fault_or_all-requires-clause-filled
first_fault_or_all-requires-clause-filled g c =
    filled_full (IsAmong c.args.results.items) c.args.inputs c.in-Ok.slots.items c.in-Ok.ensures

pub returns-clause-answers : goal.returns-clause-answers
returns-clause-answers g c =
    let slots = c.in-Ok.slots.items in
    let among = IsAmong c.args.results.items in
    IfOk-weaker c.first_fault_or_all.result (λ outs. AnswersEach (HasResult slots) (length slots) outs.items)
    (λ outs. AnswersEach among c.args.inputs outs.items)
    (λ outs. answers_weaker (HasResult slots) among (length slots) c.args.inputs c.in-Ok.ensures.0
    (filled_among among c.args.inputs slots c.in-Ok.ensures) outs.items) c.first_fault_or_all.ensures.answers

pub returns-clause-refused : goal.returns-clause-refused
returns-clause-refused g c =
    let slots = c.in-Ok.slots.items in
    let among = IsAmong c.args.results.items in
    IfErr-weaker c.first_fault_or_all.result (MayRefuse (HasResult slots) (length slots) 1)
    (MayRefuse among c.args.inputs 1)
    (refusal_weaker (HasResult slots) among (length slots) c.args.inputs 1 c.in-Ok.ensures.0
    (filled_among among c.args.inputs slots c.in-Ok.ensures)) c.first_fault_or_all.ensures.refused
