-- Lines whose columns are counted, and milestones on them.
use Rattle.std.specs.Prelude.{ℕ, ◌≡◌, ◌≤◌, List, length, take}
use Rattle.std.specs.Borrow.{Bor}
use Rattle.std.specs.List.{All}
use Rattle.scip_pages.specs.declared.columns.ColumnUnit.{ColumnUnit}
use Rattle.scip_pages.specs.declared.counted.Milestone.{Milestone}
use Rattle.scip_pages.specs.CodeText.{line_at}
use Rattle.scip_pages.specs.Columns.{units_in}

-- a line of a source, and what its columns count
pub record CountedLine : Type 0 where
  pub unit : ColumnUnit
  pub text : List ℕ

-- the lines of a source, and what their columns count
pub record CountedLines : Type 0 where
  pub unit : ColumnUnit
  pub lines : List (Bor (List ℕ))

-- A milestone is an offset of its line, and has the units before that.
abbrev pub IsMilestone : ColumnUnit → List ℕ → Milestone → Type 0
IsMilestone unit text milestone =
    (milestone.offset ≤ length text) × (milestone.units ≡ units_in unit (take milestone.offset text))

-- Each is one of its line.
abbrev pub AreMilestones : ColumnUnit → List (List ℕ) → List Milestone → Type 0
AreMilestones unit lines milestones =
    All (λ milestone. IsMilestone unit (line_at lines milestone.line) milestone) milestones
