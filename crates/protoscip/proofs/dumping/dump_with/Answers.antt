use Rattle.std.proofs.lemmas.Result.{err_from_is_err_and}
use Rattle.streams.specs.Readers.{reading}
use Rattle.protoscip.proofs.DumpLemmas.{starved_dumped}
use Rattle.protoscip.proofs.dumping.dump_with.Goals as goal

pub returns-in_err-tree-clause-dumped : goal.returns-in_err-tree-clause-dumped
returns-in_err-tree-clause-dumped g c =
    let p = err_from_is_err_and c.from_residual.result c.from_residual.ensures.1 in
    rw (p.1, p.2) (starved_dumped (reading g.F.Feed c.args.source.now _) g.W.Sink c.args.dialect
    c.args.out.now)
