-- those of the places so far than which none is nearer
use Rattle.std.proofs.Common.{◌≡◌, nat_le, take}
use Rattle.std.specs.List.{filter}
use Rattle.scip_query.specs.Nearest.{nearness_listed}
use Rattle.scip_query.proofs.nearness.nearest.Given as goal

abbrev pub invariant-loop-place : goal.invariant-loop-place
invariant-loop-place l = l.found.items
    ≡ filter (λ place. nat_le l.greatest (nearness_listed l.documents l.asked place)) (take l.place-index l.places)
