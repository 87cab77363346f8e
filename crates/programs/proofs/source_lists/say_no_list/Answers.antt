use Rattle.std.proofs.Common.{[]}
use Rattle.std.specs.String.{string_bytes}
use Rattle.streams.specs.Writers.{writing}
use Rattle.programs.specs.SourceLists.{IsListTold}
use Rattle.programs.proofs.MessageLemmas.{told_one}
use Rattle.programs.proofs.source_lists.say_no_list.Goals as goal

pub returns : goal.returns
returns g c =
    told_one (writing g.M.Sink c.args.messages.now c.report.new.messages) c.report.result _ _
    string_bytes c.fault_text-text.result
    (IsListTold (g.F.LookAgain.blames c.args.files.now [] []) c.args.explain c.args.file.now c.args.fault)
    c.said.ensures.status c.fault_text-text.ensures c.report.ensures
