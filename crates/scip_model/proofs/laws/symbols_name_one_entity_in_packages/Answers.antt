use Rattle.scip_model.proofs.PackageLemmas.{one-package}
use Rattle.scip_model.proofs.laws.symbols_name_one_entity_in_packages.Goals as goal

pub returns : goal.returns
returns c = λ id its declarations good fine apart entity other is also among there same.
    c.symbols_name_one_entity.ensures id declarations good apart entity other is also among there
    (one-package c.text_spells_one_symbol.ensures c.symbols_have_spellings.ensures.printed id its entity other good fine
    is also same)
