use Rattle.scip_wire.proofs.RefusedIndexLemmas.{index_or_fault}
use Rattle.scip_wire.proofs.laws.bytes_decode_or_have_a_fault.Goals as goal

pub returns : goal.returns
returns c = λ bytes. index_or_fault bytes
