use Rattle.std.proofs.Common.{◌≡◌, map, take}
use Rattle.scip_query.specs.CommandViews.{text_of}
use Rattle.scip_query.specs.MoreViews.{site_view}
use Rattle.scip_pages.proofs.told.paths_of_sites.Given as goal

-- those so far
abbrev pub invariant-loop-site : goal.invariant-loop-site
invariant-loop-site l =
    map text_of l.paths.items
    ≡ map (λ site. (site_view site).document.relative_path) (take l.site-index l.sites)
