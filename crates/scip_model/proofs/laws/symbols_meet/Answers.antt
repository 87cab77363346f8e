use Rattle.scip_model.proofs.PackageMeetLemmas.{meet}
use Rattle.scip_model.proofs.laws.symbols_meet.Goals as goal

pub returns : goal.returns
returns c = meet
