use Rattle.scip_wire.proofs.BufferLemmas.{all_written, part_written, passed}
use Rattle.scip_wire.proofs.write.write_spelling.Goals as goal

pub returns-clause-ok : goal.returns-clause-ok
returns-clause-ok g c =
    all_written c.finish.new.sink _ c.finish.result c.new-out.ensures.empty c.new-out.ensures.progress
    (passed g.W.Sink _ _ _ _ _ c.encode.ensures) c.finish.ensures.ok

pub returns-clause-err : goal.returns-clause-err
returns-clause-err g c =
    part_written c.finish.new.sink _ c.finish.result c.new-out.ensures.empty c.new-out.ensures.progress c.requires
    (passed g.W.Sink _ _ _ _ _ c.encode.ensures) c.finish.ensures.err
