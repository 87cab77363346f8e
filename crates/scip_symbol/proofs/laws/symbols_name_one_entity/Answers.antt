use Rattle.scip_symbol.proofs.OneEntityLemmas.{one-entity}
use Rattle.scip_symbol.proofs.laws.symbols_name_one_entity.Goals as goal

pub returns : goal.returns
returns c = one-entity
