use Rattle.std.proofs.Common.{false, ◌∙◌, ℕ, List, [], ◌∷◌, ap, subst}
use Rattle.source_tree.specs.Files.{SourceFile}
use Rattle.source_tree.specs.Refusals.{MayRefuse}
use Rattle.source_tree.specs.Trees.{IsTreeOf}
use Rattle.protoscip.proofs.DumpTreeLemmas.{one_source, never_refused}
use Rattle.protoscip.proofs.dumping.dump_tree.Goals as goal

pub returns-in-Ok : goal.returns-in-Ok
returns-in-Ok c =
    let with_path : List ℕ → List SourceFile =
    λ (path : List ℕ). record { path = path; bytes = c.args.bytes.items; is_unread = false } ∷ [] in
    let sources = c.in_ok-sources.ensures.items ∙ ap with_path c.in_ok-path.ensures.ok in
    one_source c.args.bytes.items c.in-Ok.tree
    (subst (λ (sources : List SourceFile). IsTreeOf sources [] c.in-Ok.tree) sources c.in-Ok.ensures.tree)

pub unreachable-requires : goal.unreachable-requires
unreachable-requires c =
    let with_path : List ℕ → List SourceFile =
    λ (path : List ℕ). record { path = path; bytes = c.args.bytes.items; is_unread = false } ∷ [] in
    let sources = c.in_ok-sources.ensures.items ∙ ap with_path c.in_ok-path.ensures.ok in
    never_refused c.args.bytes.items c.in-Err.fault
    (subst (λ (sources : List SourceFile). MayRefuse sources [] c.in-Err.fault) sources c.in-Err.ensures.refused)
    c.in_default.not-Memory
