use Rattle.scip_pages.proofs.RunSpanLemmas.{none_covers, none_is_narrower}
use Rattle.scip_pages.proofs.laws.the_narrowest_marks.Goals as goal

pub returns : goal.returns
returns c = record { none = none_covers; narrowest = none_is_narrower }
