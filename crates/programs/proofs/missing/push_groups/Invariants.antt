use Rattle.std.proofs.Common.{◌≡◌, ◌++◌, map, string_bytes, take}
use Rattle.std.specs.List.{flat_map}
use Rattle.programs.specs.Missing.{group_text}
use Rattle.programs.proofs.missing.push_groups.Given as goal

-- the paths so far, each with its number
abbrev pub invariant-loop-path : goal.invariant-loop-path
invariant-loop-path l =
    string_bytes l.line
    ≡ string_bytes l.fn.line
    ++ flat_map (group_text (map string_bytes l.paths)) (map string_bytes (take l.path-index l.named))
