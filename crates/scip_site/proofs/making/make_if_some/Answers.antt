use Rattle.std.proofs.Common.{[]}
use Rattle.std.proofs.lemmas.Result.{err_from_is_err_and}
use Rattle.scip_site.proofs.MakingLemmas.{none_made}
use Rattle.scip_site.proofs.making.make_if_some.Goals as goal

pub returns-in_err-file-in-Some : goal.returns-in_err-file-in-Some
returns-in_err-file-in-Some g c =
    let p = err_from_is_err_and c.from_residual.result c.from_residual.ensures.1 in
    rw (p.1, p.2, c.in-Some.is) (none_made g.O.MakeFiles _ [] c.args.made.now)
