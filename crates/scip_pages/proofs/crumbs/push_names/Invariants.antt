use Rattle.std.proofs.Common.{◌≡◌, ◌++◌, [], ℕ, List, map, length}
use Rattle.std.specs.Borrow.{Bor}
use Rattle.scip_pages.specs.Crumbs.{names_text}
use Rattle.scip_pages.proofs.crumbs.push_names.Given as goal

-- the names so far, and those that are left
abbrev pub invariant-loop-rest : goal.invariant-loop-rest
invariant-loop-rest l =
    l.page.items ++ names_text l.from l.folder.items (map (λ (n : Bor (List ℕ)). n.now) l.rest)
    ≡ l.fn.page.items ++ names_text l.from [] (map (λ (n : Bor (List ℕ)). n.now) l.names)

abbrev pub decreases-loop-rest : goal.decreases-loop-rest
decreases-loop-rest l = length l.rest
