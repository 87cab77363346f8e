use Rattle.scip_model.proofs.ExternalSymbolSeenLemmas.{none-seen, seen-more}
use Rattle.scip_model.proofs.external_symbols.may_see_included.Goals as goal

pub loop-number-init : goal.loop-number-init
loop-number-init c = none-seen c.args.linker.now c.args.source c.args.first c.requires.first

pub loop-number-preserved : goal.loop-number-preserved
loop-number-preserved c =
    seen-more c.args.linker.now c.args.source c.loop-number.number c.visible.result c.loop-number.invariant
    c.visible.ensures c.if-visible.false
