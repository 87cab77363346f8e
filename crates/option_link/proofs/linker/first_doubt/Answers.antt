use Rattle.std.proofs.Common.{Option, ap, sym, ◌∙◌}
use Rattle.option_link.specs.Doubts.{first_doubt}
use Rattle.option_link.specs.declared.target.UncertainName.{UncertainName}
use Rattle.option_link.proofs.linker.first_doubt.Goals as goal

pub returns-in-Some : goal.returns-in-Some
returns-in-Some c = sym (ap (λ (u : Option UncertainName). first_doubt u c.args.number c.args.behind) c.in-Some.is)

pub returns-in-None : goal.returns-in-None
returns-in-None c = c.doubted.ensures
    ∙ sym (ap (λ (u : Option UncertainName). first_doubt u c.args.number c.args.behind) c.in-None.is)
