use Rattle.std.proofs.Common.{◌≡◌, ◌++◌, length, map, string_bytes}
use Rattle.source_files.specs.ListedTrees.{paths_at}
use Rattle.source_files.proofs.listed.add_paths_at.Given as goal

-- the paths so far, and those of the rest
abbrev pub invariant-loop-rest : goal.invariant-loop-rest
invariant-loop-rest l =
    map string_bytes l.paths.items ++ paths_at l.root l.rest
    ≡ map string_bytes l.fn.paths.items ++ paths_at l.root l.files

abbrev pub decreases-loop-rest : goal.decreases-loop-rest
decreases-loop-rest l = length l.rest
