use Rattle.std.proofs.Common.{◌≡◌, ◌≤◌, ◌+◌, ◌++◌, length, map, vec_capacity}
use Rattle.std.specs.Vec.Iter.{into_iter_items, into_iter_len}
use Rattle.std.specs.Iterator.Adapters.{zip_first, zip_second}
use Rattle.proto_visibility.specs.Kept.{kept_of, left_of}
use Rattle.scip_build.specs.Keeping.{as_left_out}
use Rattle.scip_build.proofs.keeping.linked_parsed.Given as goal

abbrev pub invariant-loop-parsed_file : goal.invariant-loop-parsed_file
invariant-loop-parsed_file l =
    (goal.iterator-loop-parsed_file).can_next l.parsed_file-iterator ×
    (goal.iterator-loop-parsed_file).is_finite l.parsed_file-iterator ×
    (length l.parsed.items + length (into_iter_items (zip_first l.parsed_file-iterator)) ≤ vec_capacity l.parsed) ×
    (into_iter_len (zip_first l.parsed_file-iterator) ≡ length (into_iter_items (zip_first l.parsed_file-iterator))) ×
    (into_iter_len (zip_second l.parsed_file-iterator) ≡ length (into_iter_items (zip_second l.parsed_file-iterator))) ×
    (l.parsed.items ++ kept_of (into_iter_items (zip_second l.parsed_file-iterator))
    (into_iter_items (zip_first l.parsed_file-iterator)) ≡ kept_of l.fn.omissions.items l.fn.all.items) ×
    (l.left.items ++ map as_left_out (left_of (into_iter_items (zip_second l.parsed_file-iterator))
    (into_iter_items (zip_first l.parsed_file-iterator)))
    ≡ map as_left_out (left_of l.fn.omissions.items l.fn.all.items))
