use Rattle.scip_wire.proofs.RefusedIndexLemmas.{no_fault}
use Rattle.scip_wire.proofs.laws.no_fault_where_bytes_decode.Goals as goal

pub returns : goal.returns
returns c = λ bytes fault index n d. no_fault bytes fault index n d
