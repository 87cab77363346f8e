use Rattle.std.proofs.Common.{◌∙◌, ◌++◌, List, ℕ, ap, sym, nat_cmp}
use Rattle.std.specs.Cmp.Lexicographic.{slice_cmp}
use Rattle.std.proofs.lemmas.List.{append_assoc}
use Rattle.scip_model.proofs.SymbolTableOrderLemmas.{same_front, apart_fronts, stripped}
use Rattle.scip_model.proofs.symbol_table.compare_with_other.Goals as goal

pub returns-in-Some : goal.returns-in-Some
returns-in-Some c =
    let rest = c.args.rest.now in
    let other = c.args.other_front.now in
    let other_rest = c.args.other_rest.now in
    let more = c.in-Some.behind.now in
    c.compare_with_whole.ensures
    ∙ (sym (same_front other (more ++ rest) other_rest)
    ∙ ap (λ (its : List ℕ). slice_cmp nat_cmp its (other ++ other_rest))
    (sym (append_assoc other more rest)
    ∙ ap (λ (its : List ℕ). its ++ rest) (sym (stripped other c.args.front.now more c.in-Some.ensures.cases))))

pub returns-in-None : goal.returns-in-None
returns-in-None c =
    c.cmp.ensures
    ∙ sym (apart_fronts c.args.front.now c.args.rest.now c.args.other_front.now c.args.other_rest.now c.requires
    c.in-None.ensures.cases)
