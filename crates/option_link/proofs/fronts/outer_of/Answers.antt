use Rattle.std.proofs.Common.{ap, arith, length}
use Rattle.option_link.proofs.fronts.outer_of.Goals as goal

pub returns-in-Some : goal.returns-in-Some
returns-in-Some c = c.in-Some.ensures.around

pub returns-in-None : goal.returns-in-None
returns-in-None c = absurd (omega (arith, c.requires, ap length c.in-None.ensures.around))
