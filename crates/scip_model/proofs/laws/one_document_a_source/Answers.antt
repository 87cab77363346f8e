use Rattle.scip_model.proofs.PieceOneListLemmas.{one-document}
use Rattle.scip_model.proofs.laws.one_document_a_source.Goals as goal

pub returns : goal.returns
returns c = one-document
