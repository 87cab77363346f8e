use Rattle.std.proofs.Common.{◌≡◌, ◌++◌, ℕ, List, map, take}
use Rattle.std.specs.Borrow.{Bor}
use Rattle.std.specs.List.{flat_map}
use Rattle.scip_pages.specs.Uses.{defined_text}
use Rattle.scip_pages.proofs.uses.push_each_defined.Given as goal

-- the places so far
abbrev pub invariant-loop-place : goal.invariant-loop-place
invariant-loop-place l =
    l.page.items ≡ l.fn.page.items
    ++ flat_map (defined_text l.site.queries.now l.site.sources.now l.code.lines.now.unit
    (map (λ (t : Bor (List ℕ)). t.now) l.code.lines.now.lines)) (take l.place-index l.firsts)
