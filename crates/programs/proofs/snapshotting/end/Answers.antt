use Rattle.std.specs.String.{string_bytes}
use Rattle.streams.specs.Writers.{writing}
use Rattle.programs.specs.ShowFaults.{told as told_of}
use Rattle.programs.proofs.MessageLemmas.{told}
use Rattle.programs.proofs.snapshotting.end.Goals as goal

pub returns-in-Err : goal.returns-in-Err
returns-in-Err g c =
    rw c.in-Err.is
    (told (writing g.M.Sink c.args.messages.now c.report.new.messages) c.report.result _ _
    string_bytes c.show_text.result (told_of c.args.explain c.in-Err.fault) c.show_status.ensures c.show_text.ensures
    c.report.ensures)
