use Rattle.std.proofs.Common.{refl}
use Rattle.std.proofs.lemmas.Result.{err_from_is_err_and}
use Rattle.protoscip.specs.ToldTrees.MayNotTell.{telling_lacks_memory}
use Rattle.programs.specs.Reporting.{cut_off, put, refused, unmade}
use Rattle.programs.proofs.PlacingLemmas.{held_now}
use Rattle.programs.proofs.reporting.put_bytes.Goals as goal

pub returns-in_err-part : goal.returns-in_err-part
returns-in_err-part g c workers =
    let p = err_from_is_err_and c.from_residual.result c.from_residual.ensures.1 in rw (p.1, p.2) (unmade telling_lacks_memory refl)

pub returns-in-Ok-put : goal.returns-in-Ok-put
returns-in-Ok-put g c workers =
    put {bytes = c.args.bytes.now} refl (record {
      begun = c.in_ok-part.part;
      whole = c.write_all.new.sink;
      nothing = c.in_ok-part.ensures;
      written = c.in-Ok.ensures.ok;
      put = c.in-Ok-put.ensures;
      held = λ known. held_now (g.Q.Part.Sink.contents c.in_ok-part.part)
          (g.Q.Part.Sink.contents c.write_all.new.sink) (g.Q.OutPlace.holds c.put.new.self) c.args.bytes.now known
          c.in-Ok.ensures.ok.written c.in-Ok-put.ensures;
    })

pub returns-in-Err-put : goal.returns-in-Err-put
returns-in-Err-put g c workers =
    refused {bytes = c.args.bytes.now} c.in_ok-part.part c.write_all.new.sink refl c.in_ok-part.ensures
    c.in-Ok.ensures.ok c.in-Err-put.ensures

pub returns-in-Err : goal.returns-in-Err
returns-in-Err g c workers =
    cut_off {bytes = c.args.bytes.now} c.in_ok-part.part c.write_all.new.sink refl c.in_ok-part.ensures
    c.in-Err.ensures.err (c.leave.ensures, refl)
