use Rattle.std.proofs.Common.{subst}
use Rattle.scip_records.specs.declared.records.Index.{Index}
use Rattle.streams.specs.Readers.{reading}
use Rattle.streams.specs.Writers.{writing}
use Rattle.protoscip.specs.Sessions.{AreAnswered}
use Rattle.protoscip.proofs.SessionLemmas.{may_answer}
use Rattle.protoscip.proofs.answering.answer_commands_in.Goals as goal

pub returns-in-Ok : goal.returns-in-Ok
returns-in-Ok g c =
    let answered = c.answer_all_in.ensures in
    let Are : Index → Type 0 =
    λ index. AreAnswered c.args.manner (reading g.F.Feed c.args.commands.now c.answer_all_in.new.commands)
    (writing g.W.Sink c.args.answers.now c.answer_all_in.new.answers) index c.answer_all_in.result in
    may_answer c.args.manner (reading g.F.Feed c.args.commands.now c.answer_all_in.new.commands)
    (writing g.W.Sink c.args.answers.now c.answer_all_in.new.answers) c.args.index
    c.answer_all_in.result
    (subst Are c.in-Ok.ensures
    (record { conversed = answered.replies; feed = answered.feed; briefly = answered.briefly }))
