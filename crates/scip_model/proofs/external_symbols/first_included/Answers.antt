use Rattle.scip_model.proofs.ExternalSymbolEntryLemmas.{none-more}
use Rattle.scip_model.proofs.external_symbols.first_included.Goals as goal

pub loop-number-preserved : goal.loop-number-preserved
loop-number-preserved c =
    none-more c.args.linker.now c.loop-number.number c.is_included.result c.loop-number.invariant c.is_included.ensures
    c.if-is_included.false
