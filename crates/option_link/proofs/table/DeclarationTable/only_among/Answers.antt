use Rattle.option_link.proofs.LoopLemmas.{fails}
use Rattle.option_link.proofs.OwnerLemmas.{none_only, not_only, only_if}
use Rattle.option_link.proofs.table.DeclarationTable.only_among.Goals as goal

pub returns-then-not-is_alone_near : goal.returns-then-not-is_alone_near
returns-then-not-is_alone_near c =
    not_only c.args.self.now c.args.name.now c.args.file c.in-Some.place c.in-Some.ensures.0 c.in-Some.ensures.1
    (fails c.is_alone_near.result _ c.is_alone_near.ensures c.if-not-is_alone_near.true)

pub returns-else-not-is_alone_near : goal.returns-else-not-is_alone_near
returns-else-not-is_alone_near c =
    only_if c.args.self.now c.args.name.now c.args.file c.in-Some.place c.in-Some.ensures.0 c.in-Some.ensures.1
    c.is_alone_near.result c.is_alone_near.ensures c.if-not-is_alone_near.false

pub returns-in-None : goal.returns-in-None
returns-in-None c = none_only c.args.self.now c.args.name.now c.args.file c.in-None.ensures
