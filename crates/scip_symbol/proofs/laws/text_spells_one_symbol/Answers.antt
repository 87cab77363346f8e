use Rattle.scip_symbol.proofs.SymbolLemmas.{one-symbol}
use Rattle.scip_symbol.proofs.laws.text_spells_one_symbol.Goals as goal

pub returns : goal.returns
returns c = one-symbol
