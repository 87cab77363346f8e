use Rattle.std.proofs.Common.{ℕ, List, map}
use Rattle.std.specs.Borrow.{Bor}
use Rattle.scip_site.proofs.TreeLemmas.{SameUpTo}
use Rattle.scip_site.proofs.tree.common.Given as goal

-- the names so far are the same
abbrev pub invariant-loop-at : goal.invariant-loop-at
invariant-loop-at l =
    SameUpTo (map (λ (n : Bor (List ℕ)). n.now) l.here) (map (λ (n : Bor (List ℕ)). n.now) l.names) l.at
