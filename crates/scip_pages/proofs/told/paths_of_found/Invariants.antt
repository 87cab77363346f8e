use Rattle.std.proofs.Common.{◌≡◌, map, take}
use Rattle.scip_query.specs.CommandViews.{text_of}
use Rattle.scip_query.specs.MoreViews.{found_view}
use Rattle.scip_pages.proofs.told.paths_of_found.Given as goal

-- those so far
abbrev pub invariant-loop-found : goal.invariant-loop-found
invariant-loop-found l =
    map text_of l.paths.items ≡ map (λ f. (found_view f).path) (take l.found-index l.all)
