use Rattle.std.specs.String.{string_bytes}
use Rattle.streams.specs.Writers.{writing}
use Rattle.programs.specs.StartExplanations.{told as told_of}
use Rattle.programs.proofs.MessageLemmas.{told}
use Rattle.programs.proofs.start_explanations.report_start.Goals as goal

pub returns : goal.returns
returns g c =
    told (writing g.M.Sink c.args.messages.now c.report.new.messages) c.report.result _ _
    string_bytes c.start_text-text.result (told_of c.args.explain c.args.fault.now) c.status.ensures
    c.start_text-text.ensures c.report.ensures
