use Rattle.index_pool.proofs.CoreMachineRunLemmas.{takes_each_number}
use Rattle.index_pool.proofs.laws.core_takes_each_number.Goals as goal

pub returns : goal.returns
returns c = takes_each_number
