-- What code keeps of a place.
use Rattle.std.specs.Prelude.{◌≡◌, ℕ, IfSome, List, Option}
use Rattle.fault_reports.specs.declared.finding.Point.{Point}
use Rattle.fault_reports.specs.Findings.{point_in}

-- a point has the line and the column of its offset
abbrev pub IsPointOf : (text : List ℕ) → Point → Type 0
IsPointOf text point = point ≡ point_in text point.at

-- so have both
pub record ArePointsOf (text : List ℕ) (start end : Option Point) : Type 0 where
  pub start_is : IfSome start (IsPointOf text)
  pub end_is : IfSome end (IsPointOf text)
