use Rattle.scip_wire.proofs.RefusedIndexLemmas.{one_fault}
use Rattle.scip_wire.proofs.laws.one_fault_of_bytes.Goals as goal

pub returns : goal.returns
returns c = λ bytes fault other n m. one_fault bytes fault other n m
