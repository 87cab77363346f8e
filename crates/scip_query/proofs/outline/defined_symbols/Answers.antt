use Rattle.std.proofs.Common.{◌∙◌, ap, arith, length}
use Rattle.std.proofs.lemmas.List.{take_all}
use Rattle.std.specs.List.{flat_map}
use Rattle.scip_query.specs.Tables.Outlines.{defined_symbol}
use Rattle.scip_query.proofs.OutlineLemmas.{symbols_are}
use Rattle.scip_query.proofs.outline.defined_symbols.Goals as goal

pub returns : goal.returns
returns c =
    let all = take_all c.loop-occurrence.occurrence-index c.args.document.now.occurrences
    (omega (arith, ap length c.as_slice-occurrence-items.ensures)) in
    c.loop-occurrence.invariant ∙ ap (flat_map defined_symbol) all ∙ symbols_are c.args.document.now.occurrences
