use Rattle.std.proofs.Common.{◌∙◌, sym, ap, append_assoc, ◌++◌, ℕ, List}
use Rattle.std.specs.Prelude.{codes}
use Rattle.scip_site.specs.Tree.{closes}
use Rattle.scip_site.proofs.TreeLemmas.{closes_more}
use Rattle.scip_site.proofs.tree.push_closes.Goals as goal

pub loop-preserved : goal.loop-preserved
loop-preserved c =
    let end : List ℕ = codes "</ul></details></li>\n" in
    c.in_ok-extend_from_slice.ensures.items ∙ ap (λ (l : List ℕ). l ++ end) c.loop.invariant
    ∙ append_assoc c.args.page.now.items (closes c.loop.counter) end
    ∙ ap (λ (l : List ℕ). c.args.page.now.items ++ l) (sym (closes_more c.loop.counter))
