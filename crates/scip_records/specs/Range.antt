-- Where an occurrence is (`scip.proto`, Occurrence.range).
use Rattle.std.specs.Prelude.{ℕ, ◌≤◌}

-- from a place up to, and without, another: zero-based lines and columns
pub record RangeNumbers : Type 0 where
  pub start_line : ℕ
  pub start_column : ℕ
  pub end_line : ℕ
  pub end_column : ℕ

-- the greatest number of a range: that of a SCIP int32
abbrev pub max_range_number : ℕ
max_range_number = 2147483647

-- each of the four numbers fits a SCIP int32 that is not negative
pub record IsRange (r : RangeNumbers) : Type 0 where
  pub start_line : r.start_line ≤ max_range_number
  pub start_column : r.start_column ≤ max_range_number
  pub end_line : r.end_line ≤ max_range_number
  pub end_column : r.end_column ≤ max_range_number
