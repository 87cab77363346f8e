use Rattle.std.proofs.Common.{◌≡◌, ◌≤◌, ◌+◌, ◌++◌, length, vec_capacity}
use Rattle.std.specs.Vec.Iter.{into_iter_items, into_iter_len}
use Rattle.std.specs.Iterator.Adapters.{zip_first, zip_second}
use Rattle.source_tree.specs.Marks.{marked}
use Rattle.source_tree.proofs.counting.Counting.counted.Given as goal

abbrev pub invariant-loop-file : goal.invariant-loop-file
invariant-loop-file l =
    (goal.iterator-loop-file).can_next l.file-iterator ×
    (goal.iterator-loop-file).is_finite l.file-iterator ×
    (length l.counted.items + length (into_iter_items (zip_first l.file-iterator)) ≤ vec_capacity l.counted) ×
    (into_iter_len (zip_first l.file-iterator) ≡ length (into_iter_items (zip_first l.file-iterator))) ×
    (into_iter_len (zip_second l.file-iterator) ≡ length (into_iter_items (zip_second l.file-iterator))) ×
    (l.counted.items ++ marked (into_iter_items (zip_second l.file-iterator))
    (into_iter_items (zip_first l.file-iterator)) ≡ marked l.fn.self.marks.items l.fn.included.items)
