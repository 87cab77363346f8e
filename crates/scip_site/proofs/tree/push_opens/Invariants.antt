use Rattle.std.proofs.Common.{◌≡◌, ◌++◌, [], ℕ, List, map, length}
use Rattle.std.specs.Borrow.{Bor}
use Rattle.scip_site.specs.Tree.{opens}
use Rattle.scip_site.proofs.tree.push_opens.Given as goal

-- the folders so far, and those that are left
abbrev pub invariant-loop-rest : goal.invariant-loop-rest
invariant-loop-rest l =
    l.page.items ++ opens l.left l.above.items (map (λ (n : Bor (List ℕ)). n.now) l.rest)
    ≡ l.fn.page.items ++ opens l.kept [] (map (λ (n : Bor (List ℕ)). n.now) l.folders)

abbrev pub decreases-loop-rest : goal.decreases-loop-rest
decreases-loop-rest l = length l.rest
