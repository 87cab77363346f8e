use Rattle.std.proofs.Common.{[], map}
use Rattle.std.specs.String.{string_bytes}
use Rattle.streams.specs.Writers.{writing}
use Rattle.programs.specs.FilesFaults.{IsTold}
use Rattle.programs.proofs.MessageLemmas.{told_one}
use Rattle.programs.proofs.files_report.report_files.Goals as goal

pub returns : goal.returns
returns g c =
    told_one (writing g.M.Sink c.args.messages.now c.report.new.messages) c.report.result _ _
    string_bytes c.reasoned_text-text.result
    (IsTold (g.F.LookAgain.blames c.args.host.now.files.now [] []) c.args.by c.args.explain
    (map string_bytes c.args.paths.now) c.args.fault.now)
    c.status.ensures c.reasoned_text-text.ensures c.report.ensures
