use Rattle.scip_model.proofs.PieceOneListLemmas.{one-list-of-externals, one-index}
use Rattle.scip_model.proofs.laws.one_index.Goals as goal

pub returns-clause-externals : goal.returns-clause-externals
returns-clause-externals c = one-list-of-externals

pub returns-clause-indexes : goal.returns-clause-indexes
returns-clause-indexes c = one-index
