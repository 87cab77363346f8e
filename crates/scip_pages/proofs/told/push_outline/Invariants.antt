use Rattle.std.proofs.Common.{◌≡◌, ◌++◌, take}
use Rattle.std.specs.List.{flat_map}
use Rattle.scip_query.specs.MoreViews.{outlined_view}
use Rattle.scip_pages.specs.Told.{outlined_told}
use Rattle.scip_pages.proofs.told.push_outline.Given as goal

-- those so far
abbrev pub invariant-loop-outlined : goal.invariant-loop-outlined
invariant-loop-outlined l =
    l.text.items ≡ l.fn.text.items
    ++ flat_map (λ o. outlined_told l.sources l.path (outlined_view o)) (take l.outlined-index l.outline)
