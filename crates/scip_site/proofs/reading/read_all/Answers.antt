use Rattle.std.proofs.lemmas.Result.{err_from_is_err_and}
use Rattle.streams.specs.Writers.{writing}
use Rattle.scip_site.proofs.ReadingLemmas.{reads_none}
use Rattle.scip_site.proofs.reading.read_all.Goals as goal

pub returns-in_err-read_each : goal.returns-in_err-read_each
returns-in_err-read_each g c =
    let p = err_from_is_err_and c.from_residual.result c.from_residual.ensures.1 in
    rw (p.1, p.2) (reads_none (g.F.ReadFiles.gives c.args.files.now) c.args.root.now c.args.documents.now
    c.read_each.new.sources.items
    (writing g.M.Sink c.args.messages.now c.read_each.new.messages)
    c.in_err-read_each.field-0.0 c.in_err-read_each.ensures)
