use Rattle.scip_pages.proofs.ColumnOffsetLemmas.{at_one_offset, is_at_its_offset}
use Rattle.scip_pages.proofs.laws.columns_have_one_offset.Goals as goal

pub returns : goal.returns
returns c = record { only = at_one_offset; found = is_at_its_offset }
