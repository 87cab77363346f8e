use Rattle.std.proofs.Common.{◌≡◌, [], length, subst, arith}
use Rattle.scip_model.specs.Tables.ExternalLists.{Adds, IsExternal}
use Rattle.scip_model.proofs.ExternalSymbolLemmas.{external-more}
use Rattle.scip_model.proofs.external_symbols.named_externals.Goals as goal

pub loop-source-preserved : goal.loop-source-preserved
loop-source-preserved c =
    external-more c.args.linker.now c.args.choices.now c.loop-source.source c.loop-source.named.items
    c.push_source.new.named.items c.loop-source.invariant c.in_ok-push_source.ensures

pub returns : goal.returns
returns c =
    let files = c.args.linker.now in
    let same : c.loop-source.source ≡ length files =
    omega (arith, c.loop-source-test.false, c.loop-source.auto.source-end, c.count-source-end.ensures) in
    subst (λ n. Adds (IsExternal files c.args.choices.now n) [] c.loop-source.named.items) same c.loop-source.invariant
