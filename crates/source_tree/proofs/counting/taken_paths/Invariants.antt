use Rattle.std.proofs.Common.{◌≡◌, ℕ, List, take}
use Rattle.source_tree.specs.Files.{paths_of}
use Rattle.source_tree.specs.Marks.{is_taken, has_path}
use Rattle.source_tree.proofs.counting.taken_paths.Given as goal

abbrev pub invariant-loop-source : goal.invariant-loop-source
invariant-loop-source l = (path : List ℕ)
    → has_path l.taken path ≡ is_taken (paths_of (take l.source-index l.sources)) path
