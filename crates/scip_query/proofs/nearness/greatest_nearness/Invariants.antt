-- so near the nearest of the places so far is
use Rattle.std.proofs.Common.{◌≡◌, ℕ, nat_le, take}
use Rattle.std.specs.List.{list_all}
use Rattle.scip_query.specs.Nearest.{nearness_listed}
use Rattle.scip_query.proofs.nearness.greatest_nearness.Given as goal

abbrev pub invariant-loop-place : goal.invariant-loop-place
invariant-loop-place l = (n : ℕ) → nat_le l.greatest n
    ≡ list_all (λ place. nat_le (nearness_listed l.documents l.asked place) n) (take l.place-index l.places)
