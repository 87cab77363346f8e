use Rattle.std.proofs.Common.{◌≡◌, ◌≤◌, ◌++◌, length, drop}
use Rattle.scip_query.specs.Tables.Searches.{entry_places_from}
use Rattle.scip_query.proofs.tables.entry_places.Given as goal

-- the places so far, with those in the lists that are left
abbrev pub invariant-loop-list : goal.invariant-loop-list
invariant-loop-list l =
    (l.list ≤ length l.documents)
    × (l.places.items ++ entry_places_from l.list l.index.external_symbols (drop l.list l.documents)
    ≡ entry_places_from 0 l.index.external_symbols l.documents)
