-- What is made of a part of files is what is made of the whole.
use Rattle.scip_model.proofs.PartOptionLemmas.{parts_document_alike}
use Rattle.scip_model.proofs.laws.parts_document_alike.Goals as goal

pub returns : goal.returns
returns c = parts_document_alike
