use Rattle.std.proofs.Common.{refl}
use Rattle.std.specs.Prelude.{codes}
use Rattle.std.specs.String.{string_bytes}
use Rattle.streams.specs.Writers.{writing}
use Rattle.protoscip.specs.Lines.{plain_line}
use Rattle.programs.proofs.MessageLemmas.{told}
use Rattle.programs.proofs.surveying.show.Goals as goal

pub returns-in-None : goal.returns-in-None
returns-in-None g c =
    rw c.in-None.is (
      refl,
      told (writing g.M.Sink c.args.messages.now c.report.new.messages) c.report.result _ _ string_bytes
          c.plain_line.result (plain_line (codes "NoDocument")) refl c.plain_line.ensures c.report.ensures,
    )
