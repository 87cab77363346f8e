use Rattle.std.proofs.Common.{◌∙◌, ◌++◌, ◌∷◌, [], ℕ, List, ap, sym, arith, map}
use Rattle.std.proofs.lemmas.List.{map-append}
use Rattle.std.proofs.lemmas.List.FromFn.{map-range_with_len_more}
use Rattle.scip_records.specs.declared.records.SymbolInformation.{SymbolInformation}
use Rattle.scip_model.proofs.entries.first_numbers.Goals as goal

pub loop-index-preserved : goal.loop-index-preserved
loop-index-preserved c = λ entry.
    let index = c.loop-index.index in
    let so_far = map entry c.loop-index.numbers.items in
    ap (map entry) c.in_ok-push.ensures.items
    ∙ (map-append entry c.loop-index.numbers.items (c.in_ok-number.number ∷ [])
    ∙ (ap (λ (n : ℕ). so_far ++ entry n ∷ []) c.in_ok-number.ensures.number
    ∙ (ap (λ (entries : List SymbolInformation). entries ++ entry index ∷ []) (c.loop-index.invariant entry)
    ∙ sym (map-range_with_len_more entry 0 index index (omega arith)))))
