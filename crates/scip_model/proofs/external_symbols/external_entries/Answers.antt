use Rattle.std.proofs.Common.{◌+◌, List, take, sym, subst}
use Rattle.std.specs.List.{AllZip}
use Rattle.scip_records.specs.declared.records.SymbolInformation.{SymbolInformation}
use Rattle.scip_model.specs.Tables.ExternalLists.{IsEntryOf}
use Rattle.scip_model.proofs.TargetLemmas.{zip_more_at}
use Rattle.scip_model.proofs.external_symbols.external_entries.Goals as goal

pub loop-pair-preserved : goal.loop-pair-preserved
loop-pair-preserved c =
    let pairs = c.args.pairs.now in
    let index = c.loop-pair.pair-index in
    let is = IsEntryOf c.args.named.now.files c.args.choices.now c.args.named.now.ids in
    subst (λ (entries : List SymbolInformation). AllZip is (take (index + 1) pairs) entries)
    (sym c.in_ok-push.ensures.items)
    (zip_more_at is pairs index _ c.loop-pair.entries.items c.in_ok-entry.entry c.loop-pair-test.true
    c.loop-pair.invariant c.in_ok-entry.ensures)
