use Rattle.source_tree.proofs.MendingOneLemmas.{one_reading, reads_as_many}
use Rattle.source_tree.proofs.laws.one_reading.Goals as goal

pub returns-clause-one : goal.returns-clause-one
returns-clause-one c = one_reading c.one_first_fault.ensures.one

pub returns-clause-long : goal.returns-clause-long
returns-clause-long c = reads_as_many
