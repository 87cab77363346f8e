-- A range's numbers, and its fields.
use Rattle.scip_records.specs.Range.{RangeNumbers}
use Rattle.scip_records.specs.declared.range.Range.TheInside.{Inside}

-- what contracts see of the fields
abbrev pub numbers_of : Inside → RangeNumbers
numbers_of r = record {
  start_line = r.start_line;
  start_column = r.start_column;
  end_line = r.end_line;
  end_column = r.end_column;
}

-- the fields of these numbers
abbrev pub fields_of : RangeNumbers → Inside
fields_of r = record {
  start_line = r.start_line;
  start_column = r.start_column;
  end_line = r.end_line;
  end_column = r.end_column;
}
