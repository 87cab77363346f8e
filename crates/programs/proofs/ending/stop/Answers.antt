use Rattle.std.specs.String.{string_bytes}
use Rattle.streams.specs.Writers.{writing}
use Rattle.protoscip.specs.Explanations.{IsFaultText}
use Rattle.programs.proofs.MessageLemmas.{told_one}
use Rattle.programs.proofs.ending.stop.Goals as goal

pub returns : goal.returns
returns g c =
    told_one (writing g.M.Sink c.args.messages.now c.report.new.messages) c.report.result _ _
    string_bytes c.fault_text-text.result (IsFaultText c.args.explain c.args.tree.now c.args.fault.now) c.status.ensures
    c.fault_text-text.ensures c.report.ensures
