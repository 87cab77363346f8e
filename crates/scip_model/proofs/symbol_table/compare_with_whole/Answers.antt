use Rattle.std.proofs.Common.{◌∙◌, ◌++◌, List, ℕ, ap, sym, nat_cmp}
use Rattle.std.specs.Cmp.Lexicographic.{slice_cmp}
use Rattle.scip_model.proofs.SymbolTableOrderLemmas.{same_front, apart_whole, stripped}
use Rattle.scip_model.proofs.symbol_table.compare_with_whole.Goals as goal

pub returns-in-Some : goal.returns-in-Some
returns-in-Some c =
    let front = c.args.front.now in
    let rest = c.args.rest.now in
    c.cmp.ensures
    ∙ (sym (same_front front rest c.in-Some.behind.now)
    ∙ ap (λ (its : List ℕ). slice_cmp nat_cmp (front ++ rest) its)
    (sym (stripped front c.args.whole.now c.in-Some.behind.now c.in-Some.ensures.cases)))

pub returns-in-None : goal.returns-in-None
returns-in-None c =
    c.cmp-in-None.ensures
    ∙ sym (apart_whole c.args.front.now c.args.rest.now c.args.whole.now c.in-None.ensures.cases)
