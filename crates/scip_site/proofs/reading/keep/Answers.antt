use Rattle.std.proofs.Common.{sym, subst, Ok}
use Rattle.streams.specs.Writers.{silent, writing}
use Rattle.scip_site.specs.Reading.{Outcome, Keeps}
use Rattle.scip_site.proofs.ReadingLemmas.{told_so}
use Rattle.scip_site.proofs.reading.keep.Goals as goal

pub returns-in_ok-push_source-in-Ok : goal.returns-in_ok-push_source-in-Ok
returns-in_ok-push_source-in-Ok g c =
    subst (λ (o : Outcome). Keeps c.args.path.now o c.args.sources.now.items c.push_source.new.sources.items
    (writing g.M.Sink c.args.messages.now c.args.messages.now) (Ok tt)) (sym c.in-Ok.is)
    record { kept = c.in_ok-push_source-in-Ok.ensures; told_is = silent }

pub returns-in_ok-push_source-in-Err : goal.returns-in_ok-push_source-in-Err
returns-in_ok-push_source-in-Err g c =
    told_so g.M.Sink c.args.path.now c.args.outcome c.in-Err.why c.args.sources.now.items
    c.push_source-in-Err.new.sources.items c.args.messages.now c.tell.new.messages c.in-Err.is
    c.in_ok-push_source-in-Err.ensures
    c.tell.result c.tell.ensures
