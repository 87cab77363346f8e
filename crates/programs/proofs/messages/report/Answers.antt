use Rattle.std.proofs.Common.{refl, subst, ℕ, List}
use Rattle.streams.specs.Writers.{IsSaid, writing}
use Rattle.programs.proofs.messages.report.Goals as goal

pub returns-in-Ok : goal.returns-in-Ok
returns-in-Ok g c =
    let Said : List ℕ → Type 0 =
    λ line. IsSaid (writing g.M.Sink c.args.messages.now c.say.new.messages) line in
    rw c.in-Ok.is (refl, subst Said c.as_str.ensures.value c.say.ensures)

pub returns-in-Err : goal.returns-in-Err
returns-in-Err g c = rw c.in-Err.is (refl, c.say-in-Err.ensures)
