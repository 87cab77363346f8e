use Rattle.scip_build.proofs.PlacingLemmas.{built_is_in_order}
use Rattle.scip_build.proofs.laws.documents_are_in_order.Goals as goal

pub returns : goal.returns
returns g c = built_is_in_order (g.C.Chooses.allows c.args.chooser.now)
