use Rattle.std.proofs.Common.{refl, subst, ℕ, List}
use Rattle.streams.specs.Writers.{IsSaid, writing}
use Rattle.programs.proofs.ending.say_line.Goals as goal

pub returns-in-Some : goal.returns-in-Some
returns-in-Some g c =
    let Said : List ℕ → Type 0 = λ text. IsSaid (writing g.M.Sink c.args.messages.now c.say.new.messages) text in
    rw c.in-Some.is (refl, subst Said c.as_str.ensures.value c.say.ensures)
