use Rattle.std.proofs.Common.{◌≡◌, ℕ, map}
use Rattle.scip_query.specs.Tables.{numbers}
use Rattle.scip_pages.proofs.links.places_of.Given as goal

-- the places of the occurrences so far
abbrev pub invariant-loop-occurrence : goal.invariant-loop-occurrence
invariant-loop-occurrence l =
    l.places.items ≡ map (λ (k : ℕ). record { document = l.number; occurrence = k }) (numbers l.occurrence)
