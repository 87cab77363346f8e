use Rattle.option_link.proofs.LoopLemmas.{never_so}
use Rattle.option_link.proofs.TableLemmas.{has_name_by}
use Rattle.option_link.proofs.table.DeclarationTable.has_name.Goals as goal

pub returns-in-Some : goal.returns-in-Some
returns-in-Some c =
    has_name_by c.args.self.now c.args.name.now c.args.place c.in-Some.declaration.now c.full_name.result
    c.is_full_name.result c.in-Some.ensures.stands c.full_name.ensures c.is_full_name.ensures

pub returns-in-None : goal.returns-in-None
returns-in-None c = never_so _ (λ has. c.in-None.ensures.stands has.declaration has.stands)
