use Rattle.std.proofs.Common.{◌++◌, ℕ, List, codes, subst}
use Rattle.streams.specs.Writers.{IsSaid, said, silent, writing}
use Rattle.programs.proofs.causes.say_cause.Goals as goal

pub returns-in-Some : goal.returns-in-Some
returns-in-Some g c =
    let Said : List ℕ → Type 0 = λ words.
    IsSaid (writing g.M.Sink c.args.messages.now c.say_of.new.messages) (c.args.name.now ++ codes ": " ++ words) in
    rw c.in-Some.is (said (subst Said c.words.ensures c.say_of.ensures) silent)

pub returns-in-None : goal.returns-in-None
returns-in-None g c = rw c.in-None.is silent
