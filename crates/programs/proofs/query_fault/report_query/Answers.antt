use Rattle.std.proofs.Common.{◌≡◌}
use Rattle.std.specs.String.{string_bytes}
use Rattle.streams.specs.Writers.{writing}
use Rattle.programs.specs.QueryFaults.{answer_told}
use Rattle.programs.proofs.MessageLemmas.{told_one}
use Rattle.programs.proofs.query_fault.report_query.Goals as goal

pub returns-in-NoIndex : goal.returns-in-NoIndex
returns-in-NoIndex g c = rw c.in-NoIndex.is c.report_files.ensures

pub returns-in-Answers : goal.returns-in-Answers
returns-in-Answers g c =
    rw c.in-Answers.is
    (told_one (writing g.M.Sink c.args.messages.now c.report.new.messages) c.report.result _ _
    string_bytes c.answer_text-text.result (λ text. text ≡ answer_told c.args.explain c.in-Answers.fault)
    c.answer_status.ensures c.answer_text-text.ensures c.report.ensures)
