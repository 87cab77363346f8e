use Rattle.scip_wire.proofs.ReadingFoldLemmas.{same_fields}
use Rattle.scip_wire.proofs.laws.bytes_have_one_field_list.Goals as goal

pub returns : goal.returns
returns c = λ bytes fields others h k. same_fields h k
