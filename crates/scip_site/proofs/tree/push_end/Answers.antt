use Rattle.std.proofs.Common.{◌∙◌, ◌++◌, ap, sym, ℕ, List, map, length}
use Rattle.std.specs.Borrow.{Bor}
use Rattle.std.proofs.lemmas.List.{length-map}
use Rattle.std.proofs.lemmas.Result.{on_ok_weaker}
use Rattle.scip_site.specs.Tree.{but_last, closes}
use Rattle.scip_site.proofs.tree.push_end.Goals as goal

pub returns : goal.returns
returns c =
    let page : List ℕ = c.args.page.now.items in
    on_ok_weaker c.push_closes.result
    (λ e. e
    ∙ ap (λ (n : ℕ). page ++ closes n) (sym (length-map c.folders_in.result.now (λ (n : Bor (List ℕ)). n.now)))
    ∙ ap (λ (names : List (List ℕ)). page ++ closes (length names))
    (c.folders_in.ensures ∙ ap but_last
    (ap (map (λ (n : Bor (List ℕ)). n.now)) c.deref.ensures.value ∙ c.in_ok-open.ensures))) c.push_closes.ensures
