use Rattle.std.proofs.Common.{codes}
use Rattle.programs.proofs.CauseLemmas.{cut_before, said_behind}
use Rattle.programs.proofs.causes.say_words.Goals as goal

pub returns-in-Ok : goal.returns-in-Ok
returns-in-Ok g c =
    said_behind g.M.Sink (codes ": ") c.args.words.now c.args.messages.now
    c.write_all.new.sink c.say.new.messages c.in-Ok.ensures.ok c.say.ensures

pub returns-in-Err : goal.returns-in-Err
returns-in-Err g c =
    cut_before g.M.Sink (codes ": ") c.args.words.now c.args.messages.now
    c.write_all.new.sink c.in-Err.field-0.written c.in-Err.ensures.err
