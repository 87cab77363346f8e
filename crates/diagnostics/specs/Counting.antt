-- What is counted of a text, up to a place.
use Rattle.std.specs.Prelude.{◌≡◌, ◌+◌, ◌≤◌, ℕ, List, length}
use Rattle.diagnostics.specs.Places.{column, line_number}

-- The line and the column are those of the offset, which is in the text. Neither is past the bytes before it.
pub record IsCounted (text : List ℕ) (at line column_there : ℕ) : Type 0 where
  pub within : at ≤ length text
  pub line_is : line ≡ line_number text at
  pub column_is : column_there ≡ column text at
  pub few_lines : line ≤ at + 1
  pub few_columns : column_there ≤ at + 1
