use Rattle.std.proofs.Common.{arith}
use Rattle.option_link.proofs.OwnerLemmas.{alone_near}
use Rattle.option_link.proofs.table.DeclarationTable.only_near.Goals as goal

pub only_at-requires : goal.only_at-requires
only_at-requires c = alone_near c.args.self.now c.args.name.now c.args.listed.now _ (omega arith) c.requires
