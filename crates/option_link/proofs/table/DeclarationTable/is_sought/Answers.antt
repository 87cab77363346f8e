use Rattle.option_link.specs.Lookups.{admits}
use Rattle.option_link.proofs.LoopLemmas.{fails, never_so}
use Rattle.option_link.proofs.OwnerLemmas.{sought_by}
use Rattle.option_link.proofs.table.DeclarationTable.is_sought.Goals as goal

pub returns-then-not-is_sought_at : goal.returns-then-not-is_sought_at
returns-then-not-is_sought_at c =
    never_so _ (λ sought. fails c.is_sought_at.result _ c.is_sought_at.ensures c.if-not-is_sought_at.true sought.at)

pub returns : goal.returns
returns c =
    sought_by c.args.self.now c.args.file (admits c.args.sought) c.args.name.now c.args.place c.has_name.result
    (c.is_sought_at.ensures.0 c.if-not-is_sought_at.false) c.has_name.ensures
