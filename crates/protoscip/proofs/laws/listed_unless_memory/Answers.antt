use Rattle.protoscip.proofs.DumpLawLemmas.{listed_unless_memory}
use Rattle.protoscip.proofs.laws.listed_unless_memory.Goals as goal

pub returns : goal.returns
returns c = listed_unless_memory c.one_reading.ensures.one c.one_indexing.ensures.accepted
