use Rattle.std.proofs.Common.{◌≡◌, ◌≤◌, ◌++◌, length, drop}
use Rattle.scip_query.specs.Tables.{places_from}
use Rattle.scip_query.proofs.tables.occurrence_places.Given as goal

-- the places so far, with those in the documents that are left
abbrev pub invariant-loop-number : goal.invariant-loop-number
invariant-loop-number l =
    (l.number ≤ length l.documents)
    × (l.places.items ++ places_from l.number (drop l.number l.documents) ≡ places_from 0 l.documents)
