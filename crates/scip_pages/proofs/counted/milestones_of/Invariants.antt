use Rattle.std.proofs.Common.{List, ℕ, map}
use Rattle.std.specs.Borrow.{Bor}
use Rattle.scip_pages.specs.Counted.{AreMilestones}
use Rattle.scip_pages.proofs.counted.milestones_of.Given as goal

-- those so far
abbrev pub invariant-loop-number : goal.invariant-loop-number
invariant-loop-number l =
    AreMilestones l.unit (map (λ (line : Bor (List ℕ)). line.now) l.lines) l.milestones.items
