use Rattle.std.proofs.Common.{◌≡◌, length, map}
use Rattle.std.specs.String.{string_bytes}
use Rattle.std.specs.Vec.Iter.{into_iter_items, into_iter_len}
use Rattle.std.specs.Iterator.Adapters.{zip_first, zip_second}
use Rattle.programs.specs.Folders.{roots_of}
use Rattle.programs.proofs.FolderLemmas.{AreAddedBut}
use Rattle.programs.proofs.folders.add_folders.Given as goal

-- the folders so far
abbrev pub invariant-loop-id : goal.invariant-loop-id
invariant-loop-id l =
    (goal.iterator-loop-id).can_next l.id-iterator ×
    (goal.iterator-loop-id).is_finite l.id-iterator ×
    (into_iter_len (zip_first l.id-iterator) ≡ length (into_iter_items (zip_first l.id-iterator))) ×
    (into_iter_len (zip_second l.id-iterator) ≡ length (into_iter_items (zip_second l.id-iterator))) ×
    (AreAddedBut (roots_of l.fn.ids.items (map (λ here. map string_bytes here.items) l.fn.paths.items))
    l.fn.packages l.packages (into_iter_items (zip_first l.id-iterator))
    (map (λ here. map string_bytes here.items) (into_iter_items (zip_second l.id-iterator))))
