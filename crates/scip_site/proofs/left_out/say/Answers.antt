use Rattle.std.proofs.Common.{subst}
use Rattle.streams.specs.Writers.{IsCutOff, IsWritten, writing}
use Rattle.scip_site.proofs.SnapshotShowLemmas.{ended_so, cut_so}
use Rattle.scip_site.proofs.left_out.say.Goals as goal

pub returns-in-Ok : goal.returns-in-Ok
returns-in-Ok g c =
    let sink = g.M.Sink in
    let before = c.args.messages.now in
    ended_so sink c.args.line.now before c.write_all.new.sink c.write_all-in-Ok.new.sink
    c.write_all-in-Ok.result
    (subst (IsWritten (writing sink before c.write_all.new.sink)) c.as_bytes.ensures.value c.in-Ok.ensures.ok)
    c.write_all-in-Ok.ensures.ok c.write_all-in-Ok.ensures.err

pub returns-in-Err : goal.returns-in-Err
returns-in-Err g c =
    let sink = g.M.Sink in
    let before = c.args.messages.now in
    let count = c.in-Err.field-0.written in
    cut_so sink c.args.line.now before c.write_all.new.sink count
    (subst (λ text. IsCutOff (writing sink before c.write_all.new.sink) text count) c.as_bytes.ensures.value
    c.in-Err.ensures.err)
