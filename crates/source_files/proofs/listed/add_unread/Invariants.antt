use Rattle.std.proofs.Common.{◌≡◌, ◌++◌, map, string_bytes, take}
use Rattle.source_files.specs.Roots.{unread_file}
use Rattle.source_files.proofs.listed.add_unread.Given as goal

-- those of the paths so far
abbrev pub invariant-loop-path : goal.invariant-loop-path
invariant-loop-path l =
    l.files.items ≡ l.fn.files.items ++ map unread_file (map string_bytes (take l.path-index l.paths))
