use Rattle.std.proofs.Common.{◌∙◌, subst, ℕ, List}
use Rattle.streams.specs.Writers.{IsSaid, said, silent, writing}
use Rattle.scip_site.proofs.left_out.tell.Goals as goal

pub returns : goal.returns
returns g c =
    said (subst (λ (l : List ℕ). IsSaid (writing g.M.Sink c.args.messages.now c.say.new.messages) l)
    (c.as_str.ensures.value ∙ c.in_ok-line.ensures) c.say.ensures) silent
