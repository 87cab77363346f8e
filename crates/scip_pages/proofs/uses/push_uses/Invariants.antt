use Rattle.std.proofs.Common.{◌≡◌, ◌++◌, take}
use Rattle.std.specs.List.{flat_map}
use Rattle.scip_pages.specs.Uses.{use_or_none}
use Rattle.scip_pages.proofs.uses.push_uses.Given as goal

-- the places so far
abbrev pub invariant-loop-place : goal.invariant-loop-place
invariant-loop-place l =
    l.page.items ≡ l.fn.page.items
    ++ flat_map (use_or_none l.site.queries.now l.site.sources.now l.definition) (take l.place-index l.places)
