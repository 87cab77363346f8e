use Rattle.std.proofs.Common.{◌≡◌, ℕ, List, map, take}
use Rattle.std.specs.Borrow.{Bor}
use Rattle.std.specs.List.{flat_map}
use Rattle.scip_site.specs.Making.{path_or_none}
use Rattle.scip_site.proofs.making.paths_in.Given as goal

-- the paths so far
abbrev pub invariant-loop-number : goal.invariant-loop-number
invariant-loop-number l =
    map (λ (p : Bor (List ℕ)). p.now) l.paths.items
    ≡ flat_map (path_or_none l.documents l.sources) (take l.number-index l.order)
