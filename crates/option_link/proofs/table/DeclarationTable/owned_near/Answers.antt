use Rattle.std.proofs.Common.{arith}
use Rattle.option_link.proofs.OwnerLemmas.{alone_near}
use Rattle.option_link.proofs.table.DeclarationTable.owned_near.Goals as goal

pub owned_at-requires-clause-near : goal.owned_at-requires-clause-near
owned_at-requires-clause-near c =
    alone_near c.args.self.now c.args.name.now c.args.listed.now _ (omega arith) c.requires.near
