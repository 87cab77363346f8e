use Rattle.std.proofs.Common.{◌≡◌, ◌++◌, take}
use Rattle.std.specs.List.{flat_map}
use Rattle.scip_query.specs.MoreViews.{found_view}
use Rattle.scip_pages.specs.Told.{found_told}
use Rattle.scip_pages.proofs.told.push_all_found.Given as goal

-- those so far
abbrev pub invariant-loop-found : goal.invariant-loop-found
invariant-loop-found l =
    l.text.items ≡ l.fn.text.items
    ++ flat_map (λ f. found_told l.sources (found_view f)) (take l.found-index l.all)
