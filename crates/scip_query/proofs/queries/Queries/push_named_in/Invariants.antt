use Rattle.std.proofs.Common.{◌≡◌, ◌++◌, drop, map}
use Rattle.std.specs.List.{enumerate_from, flat_map}
use Rattle.scip_query.specs.MoreViews.{site_view}
use Rattle.scip_query.specs.Named.{has_name}
use Rattle.scip_query.specs.Tables.Named.{kept_if, kept_in, site_in}
use Rattle.scip_query.specs.Views.{named_view}
use Rattle.scip_query.proofs.queries.Queries.push_named_in.Given as goal

-- those so far, and those of the other occurrences
abbrev pub invariant-loop-number : goal.invariant-loop-number
invariant-loop-number l =
    map site_view l.sites.items
    ++ flat_map (λ o. kept_if (has_name l.self l.text) (site_in (named_view l.named) o))
    (enumerate_from l.number (drop l.number l.named.document.now.occurrences))
    ≡ map site_view l.fn.sites.items ++ kept_in (has_name l.self l.text) (named_view l.named)
