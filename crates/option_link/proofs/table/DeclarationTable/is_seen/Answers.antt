use Rattle.std.proofs.Common.{refl}
use Rattle.option_link.proofs.LoopLemmas.{never_so}
use Rattle.option_link.proofs.table.DeclarationTable.is_seen.Goals as goal

pub returns-in-Some : goal.returns-in-Some
returns-in-Some c = (λ t. (c.in-Some._place, c.in-Some.ensures), λ at. refl)

pub returns-in-None : goal.returns-in-None
returns-in-None c = never_so _ (λ at. c.in-None.ensures at.0 at.1)
