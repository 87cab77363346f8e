use Rattle.std.proofs.Common.{◌≡◌, ◌++◌, map, string_bytes, take}
use Rattle.source_files.specs.Unread.{at_path, unread_of}
use Rattle.source_files.proofs.listed.add_entries.Given as goal

-- those of the paths so far
abbrev pub invariant-loop-path : goal.invariant-loop-path
invariant-loop-path l =
    map unread_of l.entries.items
    ≡ map unread_of l.fn.entries.items ++ map at_path (map string_bytes (take l.path-index l.paths))
