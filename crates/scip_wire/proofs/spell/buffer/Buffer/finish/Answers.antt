use Rattle.scip_wire.proofs.BufferLemmas.{ended}
use Rattle.scip_wire.proofs.spell.buffer.Buffer.finish.Goals as goal

pub returns-in-Going-clause-ok : goal.returns-in-Going-clause-ok
returns-in-Going-clause-ok g c = (_, ended c.flush.ensures.empty c.in-Going.is c.flush.ensures.put)

pub returns-in-Stopped-clause-err : goal.returns-in-Stopped-clause-err
returns-in-Stopped-clause-err g c = ended c.flush.ensures.empty c.in-Stopped.is c.flush.ensures.put
