use Rattle.std.proofs.Common.{◌≡◌, ◌++◌, take}
use Rattle.std.specs.List.{flat_map}
use Rattle.scip_query.specs.MoreViews.{site_view}
use Rattle.scip_pages.specs.Told.{site_told}
use Rattle.scip_pages.proofs.told.push_sites.Given as goal

-- those so far
abbrev pub invariant-loop-site : goal.invariant-loop-site
invariant-loop-site l =
    l.text.items ≡ l.fn.text.items
    ++ flat_map (λ site. site_told l.sources (site_view site)) (take l.site-index l.sites)
