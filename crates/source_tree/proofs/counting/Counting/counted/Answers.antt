use Rattle.std.proofs.Common.{◌≡◌, ◌⊎◌, inl, inr, length, sym, ◌∙◌}
use Rattle.std.specs.Vec.Iter.{into_iter_items}
use Rattle.std.specs.Iterator.Adapters.{zip_first, zip_second}
use Rattle.source_tree.specs.Marks.{marked}
use Rattle.source_tree.proofs.CountingLemmas.{counted_end}
use Rattle.source_tree.proofs.counting.Counting.counted.Goals as goal

pub returns : goal.returns
returns c =
    let files = into_iter_items (zip_first c.loop-file.file-iterator) in
    let marks = into_iter_items (zip_second c.loop-file.file-iterator) in
    let (_, _, _, first, second, whole) = c.loop-file.invariant in
    let ended : (length files ≡ 0) ⊎ (length marks ≡ 0) = elim c.in-None.ensures.steps [
      | inl u ↦ inl (sym first ∙ u.1.0)
      | inr u ↦ inr (sym second ∙ u.1.0)
    ] in
    counted_end c.loop-file.counted.items marks files (marked c.args.self.marks.items c.args.included.items) ended whole
