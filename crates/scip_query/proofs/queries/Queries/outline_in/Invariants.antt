use Rattle.std.proofs.Common.{◌≡◌, map, take}
use Rattle.std.specs.List.{flat_map}
use Rattle.scip_query.specs.MoreViews.{outlined_view}
use Rattle.scip_query.specs.Tables.Outlines.{outlined_at}
use Rattle.scip_query.specs.Views.{named_view}
use Rattle.scip_query.proofs.queries.Queries.outline_in.Given as goal

-- those of the occurrences so far
abbrev pub invariant-loop-occurrence : goal.invariant-loop-occurrence
invariant-loop-occurrence l =
    map outlined_view l.outline.items
    ≡ flat_map (outlined_at l.self (named_view l.named))
    (take l.occurrence-index l.occurrence-items)
