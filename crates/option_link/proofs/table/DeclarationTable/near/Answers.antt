use Rattle.option_link.proofs.table.DeclarationTable.near.Goals as goal

pub returns : goal.returns
returns c = c.near_by.ensures c.args.name.now c.hash64.ensures
