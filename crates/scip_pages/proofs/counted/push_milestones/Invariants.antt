use Rattle.std.proofs.Common.{◌≡◌, List, ℕ, take}
use Rattle.scip_pages.specs.CodeText.{line_at}
use Rattle.scip_pages.specs.Columns.{units_in}
use Rattle.scip_pages.specs.Counted.{AreMilestones}
use Rattle.scip_pages.proofs.counted.push_milestones.Given as goal

-- the units so far, and milestones so far
abbrev pub invariant-loop-offset : goal.invariant-loop-offset
invariant-loop-offset l = record {
  counted : l.units ≡ units_in l.unit (take l.offset l.line);
  kept : (lines : List (List ℕ)) → line_at lines l.number ≡ l.line
      → AreMilestones l.unit lines l.fn.milestones.items → AreMilestones l.unit lines l.milestones.items;
}
