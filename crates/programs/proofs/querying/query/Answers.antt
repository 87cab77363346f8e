use Rattle.std.proofs.Common.{refl, map, string_bytes, Ok, Err}
use Rattle.std.proofs.lemmas.Result.{err_from_is_err_and}
use Rattle.streams.specs.Readers.{reading}
use Rattle.streams.specs.Writers.{writing}
use Rattle.programs.proofs.QueryLemmas.{told}
use Rattle.programs.proofs.querying.query.Goals as goal

pub returns-in_err-index : goal.returns-in_err-index
returns-in_err-index g c =
    let p = err_from_is_err_and c.from_residual.result c.from_residual.ensures.1 in
    rw (p.1, p.2) (c.in_err-index.ensures, record { unread = refl; unwritten = refl })

pub returns-in-Ok : goal.returns-in-Ok
returns-in-Ok g c =
    told c.args.host.now.manner (g.F.ReadFiles.gives c.args.host.now.files.now) (map string_bytes c.args.paths.now)
    (reading g.I.Feed c.args.commands.now c.answer_last.new.commands)
    (writing g.W.Sink c.args.answers.now c.answer_last.new.answers) c.in_ok-index.index
    c.in_ok-index.ensures (Ok tt) c.in-Ok.ensures

pub returns-in-Err : goal.returns-in-Err
returns-in-Err g c =
    told c.args.host.now.manner (g.F.ReadFiles.gives c.args.host.now.files.now) (map string_bytes c.args.paths.now)
    (reading g.I.Feed c.args.commands.now c.answer_last.new.commands)
    (writing g.W.Sink c.args.answers.now c.answer_last.new.answers) c.in_ok-index.index
    c.in_ok-index.ensures (Err c.in-Err.fault) c.in-Err.ensures
