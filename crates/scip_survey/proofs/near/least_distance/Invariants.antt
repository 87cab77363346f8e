use Rattle.std.proofs.Common.{◌≡◌, ◌<◌, ◌^◌, ℕ, List, nat_le, take}
use Rattle.std.specs.Borrow.{Bor}
use Rattle.std.specs.List.{list_all}
use Rattle.scip_survey.specs.Near.{distance}
use Rattle.scip_survey.proofs.near.least_distance.Given as goal

-- so near the nearest of the names so far is
abbrev pub invariant-loop-name : goal.invariant-loop-name
invariant-loop-name l =
    (n : ℕ) → n < 2 ^ 64 → nat_le n l.least
    ≡ list_all (λ (name : Bor (List ℕ)). nat_le n (distance l.text name.now)) (take l.name-index l.names)
