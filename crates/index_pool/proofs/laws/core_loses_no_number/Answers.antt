use Rattle.index_pool.proofs.CoreMachineRunLemmas.{loses_no_number}
use Rattle.index_pool.proofs.laws.core_loses_no_number.Goals as goal

pub returns : goal.returns
returns c = loses_no_number
