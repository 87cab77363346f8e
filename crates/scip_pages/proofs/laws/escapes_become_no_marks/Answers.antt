use Rattle.scip_pages.proofs.EscapeLemmas.{has_no_marks, has_only_references}
use Rattle.scip_pages.proofs.laws.escapes_become_no_marks.Goals as goal

pub returns : goal.returns
returns c = record { marks = has_no_marks; references = has_only_references }
