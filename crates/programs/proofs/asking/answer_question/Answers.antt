use Rattle.std.proofs.Common.{ℕ, List, refl, subst}
use Rattle.streams.specs.Writers.{writing}
use Rattle.scip_query.specs.MoreViews.{answer_view}
use Rattle.programs.specs.AskedOnce.{Shows, lacks_memory, shown}
use Rattle.programs.proofs.asking.answer_question.Goals as goal

pub returns-in-Ok : goal.returns-in-Ok
returns-in-Ok g c =
    let answer = answer_view c.in-Ok.answer in
    shown answer c.in-Ok.ensures.answer c.in-Ok.text.items c.in-Ok.ensures.form
    (subst (λ (text : List ℕ). Shows g.W.Caused.cause c.args.options.now c.args.queries.now answer text
    (writing g.W.Sink c.args.out.now c.show.new.out) (writing g.M.Sink c.args.messages.now c.show.new.messages)
    c.show.result) c.as_slice.ensures.value c.show.ensures)

pub returns-in-Err : goal.returns-in-Err
returns-in-Err g c = lacks_memory refl c.report.ensures
