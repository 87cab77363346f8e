use Rattle.std.proofs.Common.{◌≡◌, map, take}
use Rattle.std.specs.List.{flat_map}
use Rattle.scip_query.specs.MoreViews.{site_view}
use Rattle.scip_query.specs.Named.{is_defining}
use Rattle.scip_query.specs.Tables.Named.{kept_if}
use Rattle.scip_query.proofs.queries.Queries.definitions_named.Given as goal

-- those so far
abbrev pub invariant-loop-site : goal.invariant-loop-site
invariant-loop-site l =
    map site_view l.defining.items
    ≡ flat_map (kept_if is_defining) (map site_view (take l.site-index l.site-items))
