use Rattle.std.proofs.Common.{◌≡◌, ◌++◌, map, take}
use Rattle.std.specs.List.{flat_map}
use Rattle.scip_query.specs.Finding.{found_at}
use Rattle.scip_query.specs.MoreViews.{found_view}
use Rattle.scip_query.specs.Views.{named_view}
use Rattle.scip_query.proofs.queries.Queries.push_found_in.Given as goal

-- what is found in the occurrences so far
abbrev pub invariant-loop-occurrence : goal.invariant-loop-occurrence
invariant-loop-occurrence l =
    map found_view l.found.items ≡ map found_view l.fn.found.items
    ++ flat_map (found_at l.self l.text (named_view l.named))
    (take l.occurrence-index l.occurrence-items)
