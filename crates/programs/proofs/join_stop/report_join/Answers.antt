use Rattle.std.proofs.Common.{◌≡◌, refl}
use Rattle.std.specs.String.{string_bytes}
use Rattle.streams.specs.Writers.{writing}
use Rattle.programs.specs.JoinStops.{write_told}
use Rattle.programs.proofs.MessageLemmas.{told_one}
use Rattle.programs.proofs.join_stop.report_join.Goals as goal

pub returns-in-NoJoin : goal.returns-in-NoJoin
returns-in-NoJoin g c = rw c.in-NoJoin.is c.report_files.ensures

pub returns-in-Write : goal.returns-in-Write
returns-in-Write g c =
    rw c.in-Write.is
    (told_one (writing g.M.Sink c.args.messages.now c.report.new.messages) c.report.result _ _
    string_bytes c.write_text.result (λ text. text ≡ write_told c.args.explain)
    refl c.write_text.ensures c.report.ensures)
