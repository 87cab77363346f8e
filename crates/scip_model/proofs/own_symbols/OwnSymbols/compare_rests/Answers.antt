use Rattle.std.proofs.Common.{◌≡◌, ◌∙◌, ◌++◌, List, ℕ, Some, ap, sym, subst, nat_cmp}
use Rattle.std.specs.List.{slice_get}
use Rattle.std.specs.Cmp.Lexicographic.{slice_cmp}
use Rattle.scip_model.specs.Tables.OwnTexts.{behind}
use Rattle.scip_model.specs.Tables.Plans.{text_at}
use Rattle.scip_model.proofs.SymbolTableOrderLemmas.{same_front}
use Rattle.scip_model.proofs.PlanLemmas.{text_of_own}
use Rattle.scip_model.proofs.own_symbols.OwnSymbols.compare_rests.Goals as goal

pub returns : goal.returns
returns c = λ more.
    let front = c.self.inside.front in
    let rest_a = c.in_ok-rest_a.rest_a.now in
    let rest_b = c.in_ok-rest_b.rest_b.now in
    let rests = c.self.inside.rests in
    let own : c.as_slice.result.now ++ behind front rests ≡ c.args.self.now =
    ap (λ (first : List (List ℕ)). first ++ behind front rests) c.as_slice.ensures.value ∙ c.self.view_is in
    let own_again : c.as_slice-2.result.now ++ behind front rests ≡ c.args.self.now =
    ap (λ (first : List (List ℕ)). first ++ behind front rests) c.as_slice-2.ensures.value ∙ c.self.view_is in
    let at_a = subst (λ (texts : List (List ℕ)). slice_get texts c.args.a ≡ Some (front ++ rest_a)) own
    (c.in_ok-rest_a.ensures front) in
    let at_b = subst (λ (texts : List (List ℕ)). slice_get texts c.args.b ≡ Some (front ++ rest_b)) own_again
    (c.in_ok-rest_b.ensures front) in
    c.cmp.ensures
    ∙ (sym (same_front front rest_a rest_b)
    ∙ (ap (λ (its : List ℕ). slice_cmp nat_cmp its (front ++ rest_b))
    (text_of_own c.args.self.now more c.args.a (front ++ rest_a) at_a)
    ∙ ap (λ (its : List ℕ). slice_cmp nat_cmp (text_at (c.args.self.now ++ more) c.args.a) its)
    (text_of_own c.args.self.now more c.args.b (front ++ rest_b) at_b)))
