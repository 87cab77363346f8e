use Rattle.std.proofs.Common.{length, refl}
use Rattle.std.proofs.lemmas.Option.{slice_get_read}
use Rattle.scip_model.specs.Tables.ExternalLists.{IsOfUse}
use Rattle.scip_model.proofs.ExternalSymbolLemmas.{adds-more, adds-all}
use Rattle.scip_model.proofs.external_symbols.push_uses.Goals as goal

pub loop-type_use-preserved : goal.loop-type_use-preserved
loop-type_use-preserved c =
    let uses = c.args.uses.now in
    adds-more (IsOfUse c.args.linker.now c.args.choices.now c.args.source) uses c.loop-type_use.type_use-index
    c.type_use-item.result c.args.named.now.items c.loop-type_use.named.items c.push_use.new.named.items
    (slice_get_read uses (length uses) c.loop-type_use.type_use-index c.type_use-item.result refl
    c.loop-type_use-test.true c.type_use-item.is) c.loop-type_use.invariant c.in_ok-push_use.ensures

pub returns : goal.returns
returns c =
    adds-all (IsOfUse c.args.linker.now c.args.choices.now c.args.source) c.args.uses.now c.loop-type_use.type_use-index
    c.args.named.now.items c.loop-type_use.named.items c.loop-type_use-test.false
    c.loop-type_use.invariant
