use Rattle.scip_join.proofs.LawWellFormedLemmas.{well_formed}
use Rattle.scip_join.proofs.laws.joined_is_well_formed.Goals as goal

pub returns : goal.returns
returns c = well_formed
