use Rattle.std.proofs.Common.{◌≡◌, ◌++◌, [], ℕ, List, map, length}
use Rattle.std.specs.Borrow.{Bor}
use denote.Shadow.{shadow}
use denote.Text.{Utf8}
use Rattle.scip_site.specs.Tree.{tree}
use Rattle.scip_site.proofs.tree.push_tree.Given as goal

-- the documents so far, and those that are left
abbrev pub invariant-loop-rest : goal.invariant-loop-rest
invariant-loop-rest l =
    shadow (Utf8 l.before)
    × (l.page.items ++ tree l.before (map (λ (p : Bor (List ℕ)). p.now) l.rest)
    ≡ l.fn.page.items ++ tree [] (map (λ (p : Bor (List ℕ)). p.now) l.paths))

abbrev pub decreases-loop-rest : goal.decreases-loop-rest
decreases-loop-rest l = length l.rest
