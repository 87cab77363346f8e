use Rattle.std.proofs.Common.{◌≡◌, ◌≤◌, length, take}
use Rattle.scip_pages.specs.Columns.{units_in, is_at, offset_of}
use Rattle.scip_pages.proofs.ColumnLemmas.{first_from}
use Rattle.scip_pages.proofs.columns.offset_from.Given as goal

-- the units so far, and no offset so far is at the column
abbrev pub invariant-loop-at : goal.invariant-loop-at
invariant-loop-at l = record {
  counted : l.units ≡ units_in l.unit (take l.at l.line);
  few : l.units ≤ l.wanted;
  left : first_from (is_at l.unit l.line l.wanted) (length l.line) l.at ≡ offset_of l.unit l.line l.wanted;
}
