use Rattle.std.proofs.Common.{rules, ◌≡◌, ◌⊎◌, inl, inr, length, sym, ◌∙◌}
use Rattle.std.specs.Vec.Iter.{into_iter_items}
use Rattle.std.specs.Iterator.Adapters.{zip_first, zip_second}
use Rattle.programs.proofs.FolderLemmas.{one_added, all_added}
use Rattle.programs.proofs.folders.add_folders.Goals as goal

pub loop-id-preserved : goal.loop-id-preserved
loop-id-preserved c =
    let (_, _, first, second, whole) = c.loop-id.invariant in
    let steps = c.in-Some.ensures.steps in
    let added = one_added _ _ _ _ c.add_folder.new.packages c.in-Some.id c.in-Some.here _ _ _ _ steps.0.0 steps.1.0
    whole
    c.in_ok-add_folder.ensures in
    search rules

pub returns : goal.returns
returns c =
    let ids = into_iter_items (zip_first c.loop-id.id-iterator) in
    let folders = into_iter_items (zip_second c.loop-id.id-iterator) in
    let (_, _, first, second, whole) = c.loop-id.invariant in
    let ended : (length ids ≡ 0) ⊎ (length folders ≡ 0) = elim c.in-None.ensures.steps [
      | inl u ↦ inl (sym first ∙ u.1.0)
      | inr u ↦ inr (sym second ∙ u.1.0)
    ] in
    all_added _ _ _ _ ids folders ended whole
