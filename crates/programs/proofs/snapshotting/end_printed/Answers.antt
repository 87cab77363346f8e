use Rattle.std.proofs.Common.{◌∙◌, ◌&&◌, refl, sym}
use Rattle.streams.specs.Writers.{writing}
use Rattle.programs.specs.Printing.{is_closed}
use Rattle.programs.specs.Snapshotting.{EndsShown, is_write}
use Rattle.programs.proofs.MessageLemmas.{closed_ends, open_ends}
use Rattle.programs.proofs.snapshotting.end_printed.Goals as goal

pub returns-then-is_dropped : goal.returns-then-is_dropped
returns-then-is_dropped g c =
    let messages = writing g.M.Sink c.args.messages.now c.args.messages.now in
    closed_ends (is_write c.args.done && is_closed (g.W.Caused.cause c.args.out.now))
    (EndsShown c.args.explain c.args.done messages 0) messages 0
    (sym c.is_dropped.ensures ∙ c.if-is_dropped.true) (refl, refl)

pub returns : goal.returns
returns g c =
    let messages = writing g.M.Sink c.args.messages.now c.end.new.messages in
    open_ends (is_write c.args.done && is_closed (g.W.Caused.cause c.args.out.now))
    (EndsShown c.args.explain c.args.done messages c.end.result) messages c.end.result
    (sym c.is_dropped.ensures ∙ c.if-is_dropped.false) c.end.ensures
