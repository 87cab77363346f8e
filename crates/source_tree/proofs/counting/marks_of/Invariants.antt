use Rattle.std.proofs.Common.{◌≡◌, ◌≤◌, ℕ, List, ◌++◌, take, drop, length, vec_capacity}
use Rattle.source_tree.specs.Files.{paths_of}
use Rattle.source_tree.specs.Marks.{is_taken, has_path, marks_of}
use Rattle.source_tree.proofs.counting.marks_of.Given as goal

abbrev pub invariant-loop-file : goal.invariant-loop-file
invariant-loop-file l = record {
  count : length l.marks.items ≡ l.file-index;
  room : length l.included ≤ vec_capacity l.marks;
  marked : (paths : List (List ℕ)) → ((path : List ℕ) → has_path l.fn.taken path ≡ is_taken paths path)
      → ((path : List ℕ) → has_path l.taken path ≡ is_taken (paths ++ paths_of (take l.file-index l.included)) path)
      × (l.marks.items ++ marks_of (paths ++ paths_of (take l.file-index l.included)) (drop l.file-index l.included)
      ≡ marks_of paths l.included);
}
