use Rattle.option_link.proofs.LoopLemmas.{fails}
use Rattle.option_link.proofs.OwnerLemmas.{only_there, not_there_only}
use Rattle.option_link.proofs.table.DeclarationTable.only_at.Goals as goal

pub returns-then-not-is_in : goal.returns-then-not-is_in
returns-then-not-is_in c =
    not_there_only c.args.self.now c.args.name.now c.args.place c.requires c.args.file
    (fails c.is_in.result _ c.is_in.ensures c.if-not-is_in.true)

pub returns : goal.returns
returns c =
    only_there c.args.self.now c.args.name.now c.args.place c.requires c.args.file
    (c.is_in.ensures.0 c.if-not-is_in.false)
