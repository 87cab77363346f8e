use Rattle.std.proofs.Common.{◌∙◌, ap, subst, ℕ, List}
use Rattle.streams.specs.Writers.{IsSaid, said, silent, writing}
use Rattle.scip_site.specs.LeftOuts.{line_with}
use Rattle.scip_site.proofs.no_page.tell.Goals as goal

pub returns : goal.returns
returns g c =
    said (subst (λ (l : List ℕ). IsSaid (writing g.M.Sink c.args.messages.now c.say.new.messages) l)
    (c.as_str.ensures.value ∙ c.in_ok-line.ensures ∙ ap (line_with c.args.path.now) c.name.ensures)
    c.say.ensures) silent
