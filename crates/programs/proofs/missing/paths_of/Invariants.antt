use Rattle.std.proofs.Common.{◌≡◌, map, string_bytes, take}
use Rattle.std.specs.List.{flat_map}
use Rattle.programs.specs.Missing.{missing_in}
use Rattle.programs.proofs.missing.paths_of.Given as goal

-- the paths that are missing by the findings so far
abbrev pub invariant-loop-finding : goal.invariant-loop-finding
invariant-loop-finding l =
    map string_bytes l.paths.items ≡ flat_map missing_in (take l.finding-index l.findings)
