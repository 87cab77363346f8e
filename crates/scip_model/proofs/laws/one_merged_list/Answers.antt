use Rattle.scip_model.proofs.PieceOneListLemmas.{one-merged}
use Rattle.scip_model.proofs.laws.one_merged_list.Goals as goal

pub returns : goal.returns
returns c = one-merged
