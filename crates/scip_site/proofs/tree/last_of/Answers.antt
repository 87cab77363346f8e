use Rattle.std.proofs.Common.{◌∙◌, sym, ap, ℕ, List, map, ◌-◌}
use Rattle.std.specs.Borrow.{Bor}
use Rattle.std.proofs.lemmas.List.{length-map}
use Rattle.scip_pages.specs.CodeText.{line_at}
use Rattle.scip_site.proofs.tree.last_of.Goals as goal

pub returns : goal.returns
returns c =
    let names : List (List ℕ) = map (λ (n : Bor (List ℕ)). n.now) c.args.names.now in
    c.line_at.ensures ∙ ap (line_at names) c.saturating_sub.ensures
    ∙ ap (λ (k : ℕ). line_at names (k - 1)) (sym (length-map c.args.names.now (λ (n : Bor (List ℕ)). n.now)))
