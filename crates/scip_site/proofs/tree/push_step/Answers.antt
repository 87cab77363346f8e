use Rattle.std.proofs.Common.{◌∙◌, ◌++◌, ap, ℕ, List, map}
use Rattle.std.specs.Borrow.{Bor}
use Rattle.std.proofs.lemmas.Result.{on_ok_weaker}
use Rattle.scip_pages.specs.Paths.{components}
use Rattle.scip_site.specs.Tree.{but_last, step_with}
use Rattle.scip_site.proofs.tree.push_step.Goals as goal

pub returns : goal.returns
returns c =
    let page : List ℕ = c.args.page.now.items in
    on_ok_weaker c.push_between.result
    (λ e. e
    ∙ ap (λ (names : List (List ℕ)). page ++ step_with
    (map (λ (n : Bor (List ℕ)). n.now) c.folders_in.result.now) c.args.path.now names)
    (ap (map (λ (n : Bor (List ℕ)). n.now)) c.deref-2.ensures.value ∙ c.in_ok-names.ensures)
    ∙ ap (λ (names : List (List ℕ)). page ++ step_with names c.args.path.now (components c.args.path.now))
    (c.folders_in.ensures ∙ ap but_last
    (ap (map (λ (n : Bor (List ℕ)). n.now)) c.deref.ensures.value ∙ c.in_ok-open.ensures))) c.push_between.ensures
