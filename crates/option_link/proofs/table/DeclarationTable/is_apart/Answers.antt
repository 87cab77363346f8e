use Rattle.option_link.proofs.LoopLemmas.{always_so}
use Rattle.option_link.proofs.table.DeclarationTable.is_apart.Goals as goal

pub returns-in-None : goal.returns-in-None
returns-in-None c = always_so _ (λ has. absurd (c.in-None.ensures.stands has.declaration has.stands))
