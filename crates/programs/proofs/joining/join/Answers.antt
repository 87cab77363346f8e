use Rattle.std.specs.String.{string_bytes}
use Rattle.std.specs.Global.{Global}
use Rattle.std.proofs.Common.{refl, subst, map, List, [], String}
use Rattle.streams.specs.Writers.{writing}
use Rattle.programs.specs.JoinStops.{IsTold, status_of}
use Rattle.programs.specs.Joining.RunsJoin.{puts, stops}
use Rattle.programs.specs.Messages.{TellsOne}
use Rattle.programs.proofs.joining.join.Goals as goal

pub returns-in-Ok : goal.returns-in-Ok
returns-in-Ok g c = puts c.in-Ok.ensures.put (refl, refl)

pub returns-in-Err : goal.returns-in-Err
returns-in-Err g c =
    let stop = c.in-Err.stop in
    let Said : List (String Global) → Type 0 = λ paths. TellsOne
    (IsTold (g.F.LookAgain.blames c.args.host.now.files.now [] []) c.args.options.now.explain
    (map string_bytes paths) stop) (status_of stop)
    (writing g.M.Sink c.args.messages.now c.report_join.new.messages) c.report_join.result in
    stops stop c.in-Err.ensures.stops c.in-Err.ensures.left
    (subst Said c.as_slice-paths.ensures.value c.report_join.ensures)
