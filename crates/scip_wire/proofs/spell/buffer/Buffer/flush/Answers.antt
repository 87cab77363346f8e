use Rattle.scip_wire.proofs.BufferLemmas.{Passes-out, alike}
use Rattle.scip_wire.proofs.spell.buffer.Buffer.flush.Goals as goal

pub returns-clause-put : goal.returns-clause-put
returns-clause-put g c =
    Passes-out g.W.Sink _ _ _ _ _ _ c.clear.ensures
    (alike c.as_slice.ensures.value c.send.ensures)
