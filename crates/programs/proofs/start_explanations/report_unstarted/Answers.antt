use Rattle.std.specs.String.{string_bytes}
use Rattle.streams.specs.Writers.{writing}
use Rattle.programs.specs.Searches.{blamed_by}
use Rattle.programs.specs.StartExplanations.{IsTold}
use Rattle.programs.proofs.MessageLemmas.{told_one}
use Rattle.programs.proofs.start_explanations.report_unstarted.Goals as goal

pub returns : goal.returns
returns g c =
    told_one (writing g.M.Sink c.args.messages.now c.report.new.messages) c.report.result _ _
    string_bytes c.unstarted_text-text.result
    (IsTold (blamed_by c.args.options.now (g.F.LookAgain.blames c.args.host.now.files.now)) c.args.options.now.explain
    c.args.fault.now)
    c.status.ensures c.unstarted_text-text.ensures c.report.ensures
