use Rattle.scip_model.specs.Tables.ExternalLists.{IsOfPart}
use Rattle.scip_model.proofs.ExternalSymbolLemmas.{adds-more-at, adds-all}
use Rattle.scip_model.proofs.external_symbols.push_parts.Goals as goal

pub loop-part-preserved : goal.loop-part-preserved
loop-part-preserved c =
    adds-more-at (IsOfPart c.args.linker.now c.args.choices.now) c.args.parts.now c.loop-part.part-index _
    c.args.named.now.items c.loop-part.named.items c.push_part.new.named.items
    c.loop-part-test.true c.loop-part.invariant c.in_ok-push_part.ensures

pub returns : goal.returns
returns c =
    adds-all (IsOfPart c.args.linker.now c.args.choices.now) c.args.parts.now c.loop-part.part-index
    c.args.named.now.items c.loop-part.named.items c.loop-part-test.false c.loop-part.invariant
