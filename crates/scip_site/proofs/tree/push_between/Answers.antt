use Rattle.std.proofs.Common.{◌∙◌, ap, sym, ℕ, List, map, ◌-◌}
use Rattle.std.specs.Borrow.{Bor}
use Rattle.std.proofs.lemmas.List.{length-map}
use Rattle.std.proofs.lemmas.Result.{on_ok_weaker}
use Rattle.scip_site.proofs.TreeLemmas.{between}
use Rattle.scip_site.proofs.tree.push_between.Goals as goal

pub returns : goal.returns
returns c =
    on_ok_weaker c.push_leaf.result
    (λ e. e ∙ between c.args.page.now.items c.push_closes.new.page.items c.push_opens.new.page.items
    (map (λ (n : Bor (List ℕ)). n.now) c.args.here.now)
    (map (λ (n : Bor (List ℕ)). n.now) c.folders_in-folders.result.now)
    (map (λ (n : Bor (List ℕ)). n.now) c.args.names.now) c.args.path.now c.common-kept.result c.saturating_sub.result
    c.folders_in-folders.ensures c.common-kept.ensures
    (c.saturating_sub.ensures
    ∙ ap (λ (k : ℕ). k - c.common-kept.result) (sym (length-map c.args.here.now (λ (n : Bor (List ℕ)). n.now))))
    c.in_ok-push_closes.ensures c.in_ok-push_opens.ensures) c.push_leaf.ensures
