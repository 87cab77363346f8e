use Rattle.std.proofs.Common.{map, string_bytes, take}
use Rattle.source_files.specs.Exclusions.{PathsStay}
use Rattle.programs.proofs.listed_folders.paths_left.Given as goal

-- those of the paths so far that stay
abbrev pub invariant-loop-one : goal.invariant-loop-one
invariant-loop-one l =
    PathsStay (map string_bytes l.excluded) (map (λ named. named.path) (take l.one-index l.listed))
    (map string_bytes l.paths.items)
