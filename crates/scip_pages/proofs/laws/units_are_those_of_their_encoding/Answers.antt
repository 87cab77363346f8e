use Rattle.scip_pages.proofs.ColumnUnitLemmas.{counts_utf8, counts_utf16, counts_utf32}
use Rattle.scip_pages.proofs.laws.units_are_those_of_their_encoding.Goals as goal

pub returns : goal.returns
returns c = record { utf8 = counts_utf8; utf16 = counts_utf16; utf32 = counts_utf32 }
