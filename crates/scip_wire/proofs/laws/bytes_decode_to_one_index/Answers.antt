use Rattle.scip_wire.proofs.DecodesLemmas.{same_index}
use Rattle.scip_wire.proofs.laws.bytes_decode_to_one_index.Goals as goal

pub returns : goal.returns
returns c = λ bytes index other d e. same_index d e
