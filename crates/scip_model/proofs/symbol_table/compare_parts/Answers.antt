use Rattle.std.proofs.Common.{◌∙◌, ◌++◌, List, ℕ, Ordering, ap, sym, nat_cmp}
use Rattle.std.specs.Cmp.Lexicographic.{slice_cmp}
use Rattle.std.specs.Ordering.{ordering_reverse}
use Rattle.std.proofs.lemmas.Cmp.{nat_list_cmp_total}
use Rattle.std.proofs.lemmas.List.{append_assoc}
use Rattle.scip_model.proofs.SymbolTableOrderLemmas.{same_front, stripped}
use Rattle.scip_model.proofs.symbol_table.compare_parts.Goals as goal

pub returns-in-Some : goal.returns-in-Some
returns-in-Some c =
    let front = c.args.front.now in
    let rest = c.args.rest.now in
    let other_rest = c.args.other_rest.now in
    let more = c.in-Some.behind.now in
    c.reverse.ensures
    ∙ (ap (λ (o : Ordering). ordering_reverse o) c.compare_with_whole.ensures
    ∙ (sym (nat_list_cmp_total.antisymm rest (more ++ other_rest))
    ∙ (sym (same_front front rest (more ++ other_rest))
    ∙ ap (λ (its : List ℕ). slice_cmp nat_cmp (front ++ rest) its)
    (sym (append_assoc front more other_rest)
    ∙ ap (λ (its : List ℕ). its ++ other_rest)
    (sym (stripped front c.args.other_front.now more c.in-Some.ensures.cases))))))
