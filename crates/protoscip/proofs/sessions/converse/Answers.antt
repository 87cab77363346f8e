use Rattle.std.proofs.lemmas.Result.{err_from_is_err_and}
use Rattle.streams.specs.Readers.{reading}
use Rattle.streams.specs.Writers.{writing}
use Rattle.protoscip.specs.Conversing.Converses.{all_are_answered}
use Rattle.protoscip.proofs.SessionLemmas.{conversed, stopped}
use Rattle.protoscip.proofs.sessions.converse.Goals as goal

pub returns-in_err-answer_commands_in : goal.returns-in_err-answer_commands_in
returns-in_err-answer_commands_in g c =
    let p = err_from_is_err_and c.from_residual-in_err-answer_commands_in.result
    c.from_residual-in_err-answer_commands_in.ensures.1 in
    let read = c.in_ok-read.ensures in
    rw (p.1, p.2) (stopped c.args.manner (reading g.F.Feed c.args.commands.now c.answer_commands_in.new.commands)
    (writing g.W.Sink c.args.answers.now c.answer_commands_in.new.answers) c.args.index
    c.in_ok-read.read read.0 read.1 c.in_err-answer_commands_in.field-0.0 c.in_err-answer_commands_in.ensures)

pub returns : goal.returns
returns g c =
    let read = c.in_ok-read.ensures in
    all_are_answered (conversed c.args.manner (reading g.F.Feed c.args.commands.now c.answer_commands_in.new.commands)
    (writing g.W.Sink c.args.answers.now c.answer_commands_in.new.answers) c.args.index
    c.in_ok-read.read read.0 read.1 _ c.in_ok-answer_commands_in.ensures)
