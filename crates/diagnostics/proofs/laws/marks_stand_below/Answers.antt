use Rattle.diagnostics.proofs.LawWidthLemmas.{marks_stand_below}
use Rattle.diagnostics.proofs.laws.marks_stand_below.Goals as goal

pub returns : goal.returns
returns c = marks_stand_below
