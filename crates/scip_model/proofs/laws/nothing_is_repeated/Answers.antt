use Rattle.scip_model.proofs.RepeatedLemmas.{none-repeated}
use Rattle.scip_model.proofs.laws.nothing_is_repeated.Goals as goal

pub returns : goal.returns
returns c = λ files repeated clear are. are.none (none-repeated files clear)
