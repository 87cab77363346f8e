use Rattle.std.proofs.Common.{◌≡◌, map, take, string_bytes}
use Rattle.source_tree.specs.Files.{paths_of}
use Rattle.source_files.proofs.folders.paths_of_each.Given as goal

abbrev pub invariant-loop-below : goal.invariant-loop-below
invariant-loop-below l =
    map (λ paths. map string_bytes paths.items) l.all.items
    ≡ map (λ below. paths_of below.files) (take l.below-index l.each)
