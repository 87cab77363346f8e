use Rattle.scip_symbol.proofs.SpellsSymbolTextLemmas.{spelled-is, printed}
use Rattle.scip_symbol.proofs.laws.symbols_have_spellings.Goals as goal

pub returns : goal.returns
returns c = record { only = spelled-is; printed = printed }
