use Rattle.std.proofs.Common.{◌∙◌, ◌++◌, ap, ℕ, List}
use Rattle.std.specs.Prelude.{codes}
use Rattle.scip_pages.specs.Snapshot.{below}
use Rattle.scip_pages.proofs.SnapshotLemmas.{in_four}
use Rattle.scip_pages.proofs.about.push_note_head.Goals as goal

pub returns : goal.returns
returns c =
    let head = c.args.head.now in
    let before = below 32 c.args.before.now in
    c.in_ok-extend_from_slice-3.ensures.items
    ∙ ap (λ (l : List ℕ). l ++ codes "\n")
    (c.in_ok-extend_from_slice-2.ensures.items
    ∙ ap (λ (l : List ℕ). l ++ head)
    (c.in_ok-push_below.ensures ∙ ap (λ (l : List ℕ). l ++ before) c.in_ok-extend_from_slice.ensures.items))
    ∙ in_four c.args.text.now.items (codes "//") before head (codes "\n")
