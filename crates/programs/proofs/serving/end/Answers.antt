use Rattle.std.proofs.Common.{◌≡◌, subst, List}
use Rattle.std.specs.Option.{option_map}
use Rattle.std.specs.String.{string_bytes}
use Rattle.streams.specs.Writers.{writing}
use Rattle.scip_build.specs.declared.omission.Omission.{Omission}
use Rattle.programs.specs.Messages.{TellsOfSuccess}
use Rattle.programs.specs.TreeRuns.{SaysOmissions}
use Rattle.programs.proofs.serving.end.Goals as goal

pub returns-in-Ok : goal.returns-in-Ok
returns-in-Ok g c =
    rw c.in-Ok.is
    (subst (λ (told : List Omission). SaysOmissions TellsOfSuccess
    (λ line. line ≡ option_map string_bytes c.args.run.now.none_found) c.args.closing.explain c.args.closing.is_real
    c.args.run.now.tree c.args.run.now.unread.items told
    (writing g.M.Sink c.args.messages.now c.tell.new.messages) c.tell.result)
    c.as_slice.ensures c.tell.ensures)

pub returns-in-Err : goal.returns-in-Err
returns-in-Err g c = rw c.in-Err.is c.stop.ensures
