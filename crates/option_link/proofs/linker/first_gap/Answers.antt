use Rattle.std.proofs.Common.{Option, None, ℕ, ap, sym, ◌∙◌}
use Rattle.option_link.specs.Found.{first_gap}
use Rattle.option_link.proofs.linker.first_gap.Goals as goal

pub returns-in-Some : goal.returns-in-Some
returns-in-Some c = sym (ap (λ (gap : Option ℕ). first_gap gap c.args.number c.args.is) c.in-Some.is)

pub returns-then-not-is : goal.returns-then-not-is
returns-then-not-is c =
    sym (ap (λ (gap : Option ℕ). first_gap gap c.args.number c.args.is) c.in-None.is
    ∙ ap (first_gap None c.args.number) c.if-not-is.true)

pub returns-else-not-is : goal.returns-else-not-is
returns-else-not-is c =
    sym (ap (λ (gap : Option ℕ). first_gap gap c.args.number c.args.is) c.in-None.is
    ∙ ap (first_gap None c.args.number) c.if-not-is.false)
