use Rattle.std.proofs.Common.{arith, length-drop, subst, ◌∙◌}
use Rattle.streams.specs.Writers.{writing, IsWritten}
use Rattle.streams.proofs.whole_writes.write_all.Goals as goal
use Rattle.streams.proofs.WholeWriteLemmas.{unfailed_write, rest_further, sent_further, IsWritten-trans}

pub writes-preserved : goal.writes-preserved
writes-preserved g c =
    let sink = g.W.Sink in
    let before = c.writes.invariant in
    let n = c.in-Ok.count in
    let rest = c.writes.rest.now in
    let bound = c.in-Ok.ensures.bound in
    let now : IsWritten (writing sink c.writes.sink c.write.new.self) _ = record {
      written = c.in-Ok.ensures.bytes;
      unfailed = c.in-Ok.ensures.failures ∙ unfailed_write _ n rest (omega arith);
    } in
    rw c.split_at.ensures.back (record {
      fits = omega (arith, length-drop n rest, before.fits);
      suffix = rest_further _ rest n before.fits before.suffix bound;
      sent = subst (IsWritten (writing sink _ _)) (sent_further _ rest n before.fits before.suffix bound)
          (IsWritten-trans sink _ _ _ _ _ before.sent now);
    })
