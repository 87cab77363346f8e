use Rattle.std.proofs.Common.{◌≡◌, map, take}
use Rattle.std.specs.List.{flat_map}
use Rattle.scip_query.specs.declared.place.Place.{Place}
use Rattle.scip_query.specs.MoreViews.{site_view}
use Rattle.scip_query.specs.Tables.Searches.{site_listed, some_of}
use Rattle.scip_query.proofs.site.sites_at.Given as goal

-- those at the places so far
abbrev pub invariant-loop-place : goal.invariant-loop-place
invariant-loop-place l =
    map site_view l.sites.items
    ≡ flat_map (λ (place : Place). some_of (site_listed l.documents place)) (take l.place-index l.places)
