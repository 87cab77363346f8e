use Rattle.scip_query.specs.Nearest.{nearness_listed}
use Rattle.scip_query.proofs.NearestLemmas.{one_more}
use Rattle.scip_query.proofs.nearness.greatest_nearness.Goals as goal

pub loop-place-preserved : goal.loop-place-preserved
loop-place-preserved c =
    λ n. one_more (nearness_listed c.args.documents.now c.args.asked.now) c.args.places.now c.loop-place.place-index _ n
    c.loop-place.greatest c.nearness_listed.result c.greater-greatest.result c.loop-place-test.true
    c.greater-greatest.ensures c.nearness_listed.ensures (c.loop-place.invariant n)
