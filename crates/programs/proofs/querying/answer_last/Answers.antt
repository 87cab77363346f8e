use Rattle.std.proofs.Common.{subst}
use Rattle.scip_records.specs.declared.records.Index.{Index}
use Rattle.streams.specs.Readers.{reading}
use Rattle.streams.specs.Writers.{writing}
use Rattle.protoscip.specs.Sessions.{AreAnswered}
use Rattle.protoscip.proofs.SessionLemmas.{may_answer}
use Rattle.programs.proofs.querying.answer_last.Goals as goal

pub returns-in-Ok : goal.returns-in-Ok
returns-in-Ok g c =
    let answered = c.answer_all_in-answered.ensures in
    let Are : Index → Type 0 =
    λ index. AreAnswered c.args.manner (reading g.I.Feed c.args.commands.now c.answer_all_in-answered.new.commands)
    (writing g.W.Sink c.args.answers.now c.answer_all_in-answered.new.answers) index c.answer_all_in-answered.result in
    may_answer c.args.manner (reading g.I.Feed c.args.commands.now c.answer_all_in-answered.new.commands)
    (writing g.W.Sink c.args.answers.now c.answer_all_in-answered.new.answers) c.args.index
    c.answer_all_in-answered.result
    (subst Are c.in-Ok.ensures
    (record { conversed = answered.replies; feed = answered.feed; briefly = answered.briefly }))
