use Rattle.std.proofs.Common.{◌∙◌, ◌&&◌, refl, sym}
use Rattle.streams.specs.Writers.{writing}
use Rattle.protoscip.specs.Explanations.{IsFaultText}
use Rattle.protoscip.specs.FaultTexts.{status_of}
use Rattle.programs.specs.Dumping.{is_write}
use Rattle.programs.specs.Messages.{TellsOne}
use Rattle.programs.specs.Printing.{is_closed}
use Rattle.programs.proofs.MessageLemmas.{closed_ends, open_ends}
use Rattle.programs.proofs.dumping.stop_listing.Goals as goal

pub returns-then-is_dropped : goal.returns-then-is_dropped
returns-then-is_dropped g c =
    let messages = writing g.M.Sink c.args.messages.now c.args.messages.now in
    closed_ends (is_write c.args.fault.now && is_closed (g.W.Caused.cause c.args.out.now))
    (TellsOne (IsFaultText c.args.explain c.args.tree.now c.args.fault.now) (status_of c.args.fault.now) messages 0)
    messages 0 (sym c.is_dropped.ensures ∙ c.if-is_dropped.true) (refl, refl)

pub returns : goal.returns
returns g c =
    let messages = writing g.M.Sink c.args.messages.now c.stop.new.messages in
    open_ends (is_write c.args.fault.now && is_closed (g.W.Caused.cause c.args.out.now))
    (TellsOne (IsFaultText c.args.explain c.args.tree.now c.args.fault.now) (status_of c.args.fault.now) messages
    c.stop.result) messages c.stop.result (sym c.is_dropped.ensures ∙ c.if-is_dropped.false) c.stop.ensures
