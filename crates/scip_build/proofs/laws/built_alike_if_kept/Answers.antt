use Rattle.scip_build.proofs.BuildLawKeepLemmas.{built_alike_if_kept}
use Rattle.scip_build.proofs.laws.built_alike_if_kept.Goals as goal

pub returns : goal.returns
returns g c = built_alike_if_kept (g.C.Chooses.allows c.args.chooser.now)
