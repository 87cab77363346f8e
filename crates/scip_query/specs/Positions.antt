-- Positions and ranges (`scip.proto`, Occurrence.range).
use Rattle.std.specs.Prelude.{Bool, ◌&&◌, ◌||◌}
use Rattle.std.specs.declared.cmp.Ordering.{Ordering}
use Rattle.std.specs.Ordering.{nat_cmp, on, then_cmp, is_lt, is_le, is_eq}
use Rattle.scip_records.specs.Range.{RangeNumbers}
use Rattle.scip_query.specs.declared.position.Position.{Position}

-- by line, then column
abbrev pub position_cmp : Position → Position → Ordering
position_cmp = then_cmp (on (λ (p : Position). p.line) nat_cmp) (on (λ (p : Position). p.column) nat_cmp)

abbrev pub start_of : RangeNumbers → Position
start_of range = record { line = range.start_line; column = range.start_column }

abbrev pub end_of : RangeNumbers → Position
end_of range = record { line = range.end_line; column = range.end_column }

-- a half-open range contains the positions from its start up to, and without, its end; an empty one contains its own
-- position
abbrev pub contains : RangeNumbers → Position → Bool
contains range p =
    (is_le (position_cmp (start_of range) p) && is_lt (position_cmp p (end_of range)))
    || (is_eq (position_cmp (start_of range) p) && is_eq (position_cmp p (end_of range)))
