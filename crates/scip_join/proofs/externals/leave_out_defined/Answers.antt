use Rattle.std.proofs.Common.{◌∙◌, not, rules, subst, List}
use Rattle.std.proofs.lemmas.Fn.{filter_same}
use Rattle.scip_records.specs.declared.records.SymbolInformation.{SymbolInformation}
use Rattle.scip_join.specs.Gathered.{symbols_in}
use Rattle.scip_join.specs.Tables.{all_symbols, is_among, texts, AreDefined}
use Rattle.scip_join.proofs.ExternalLemmas.{filter_alike}
use Rattle.scip_join.proofs.externals.leave_out_defined.Goals as goal

pub returns : goal.returns
returns c =
    let entries = c.args.entries.now.items in
    let symbols = all_symbols c.args.pieces.now in
    let defined = texts c.in_ok-defined.defined.items in
    let sorted = c.in_ok-defined.ensures.sorted in
    let exact : AreDefined (symbols_in entries) symbols defined =
    subst (λ (l : List SymbolInformation). AreDefined (symbols_in l) symbols defined) c.as_slice.ensures.value
    c.in_ok-defined.ensures.exact in
    filter_same _ (λ (e : SymbolInformation). not (is_among defined e.symbol)) _
    (λ x b f' k. search (rules, sorted)) _ _ c.retain.ensures.filtered
    ∙ filter_alike (is_among defined) (is_among symbols) entries exact
