use Rattle.scip_wire.proofs.BufferLemmas.{sent_all, sent_part, sent_none}
use Rattle.scip_wire.proofs.spell.buffer.Progress.send.Goals as goal

pub returns-in_default : goal.returns-in_default
returns-in_default g c = sent_none g.W.Sink _ _ _ _ _ _ c.in_default.is

pub returns-in-Ok : goal.returns-in-Ok
returns-in-Ok g c = rw c.in-Going.is
    (sent_all g.W.Sink _ _ c.in-Going.count _ _ c.in-Ok.ensures.ok c.saturating_add.ensures)

pub returns-in-Err : goal.returns-in-Err
returns-in-Err g c = rw c.in-Going.is
    (sent_part g.W.Sink _ _ c.in-Going.count _ _ _ c.in-Err.ensures.err
    c.saturating_add-in-Err.ensures)
