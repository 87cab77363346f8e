use Rattle.std.proofs.Common.{sym, ◌∙◌}
use Rattle.option_link.proofs.LoopLemmas.{found_flat, none_flat}
use Rattle.option_link.proofs.naming.given_at.Goals as goal

pub returns-in-Some : goal.returns-in-Some
returns-in-Some c = found_flat c.args.given.now c.args.number c.in-Some.found (sym c.given_with.ensures ∙ c.in-Some.is)

pub returns-in-None : goal.returns-in-None
returns-in-None c = none_flat c.args.given.now c.args.number (sym c.given_with.ensures ∙ c.in-None.is)
