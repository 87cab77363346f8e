use Rattle.std.proofs.Common.{◌∙◌, inr, refl, sym}
use Rattle.std.specs.String.{string_bytes}
use Rattle.streams.specs.Writers.{writing}
use Rattle.protoscip.specs.Lines.{plain_line}
use Rattle.protoscip.specs.Statuses.{stream_status}
use Rattle.std.specs.Prelude.{codes}
use Rattle.programs.specs.Messages.{Tells}
use Rattle.programs.specs.Printing.{is_closed}
use Rattle.programs.proofs.MessageLemmas.{closed_ends, open_ends, told}
use Rattle.programs.proofs.output.print_bytes.Goals as goal

pub returns-then-is_closed : goal.returns-then-is_closed
returns-then-is_closed g c =
    let count = c.in-Err.field-0.written in
    let messages = writing g.M.Sink c.args.messages.now c.args.messages.now in
    inr (
      count,
      c.in-Err.ensures.err,
      closed_ends (is_closed (g.W.Caused.cause c.write_all.new.sink))
          (Tells (plain_line (codes "Write")) stream_status messages 0) messages 0
          (sym c.is_closed.ensures ∙ c.if-is_closed.true) (refl, refl),
    )

pub returns-else-is_closed : goal.returns-else-is_closed
returns-else-is_closed g c =
    let count = c.in-Err.field-0.written in
    let messages = writing g.M.Sink c.args.messages.now c.report.new.messages in
    inr (
      count,
      c.in-Err.ensures.err,
      open_ends (is_closed (g.W.Caused.cause c.write_all.new.sink))
          (Tells (plain_line (codes "Write")) stream_status messages c.report.result) messages c.report.result
          (sym c.is_closed.ensures ∙ c.if-is_closed.false)
          (told messages c.report.result _ _ string_bytes c.plain_line-line.result (plain_line (codes "Write")) refl
          c.plain_line-line.ensures c.report.ensures),
    )
