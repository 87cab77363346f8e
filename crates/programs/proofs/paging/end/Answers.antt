use Rattle.std.specs.String.{string_bytes}
use Rattle.streams.specs.Writers.{writing}
use Rattle.programs.specs.SiteFaults.{told as told_of}
use Rattle.programs.proofs.MessageLemmas.{told}
use Rattle.programs.proofs.paging.end.Goals as goal

pub returns-in-Err : goal.returns-in-Err
returns-in-Err g c =
    rw c.in-Err.is
    (told (writing g.M.Sink c.args.messages.now c.report.new.messages) c.report.result _ _
    string_bytes c.site_text.result (told_of c.args.explain c.in-Err.fault) c.site_status.ensures c.site_text.ensures
    c.report.ensures)
