use Rattle.std.proofs.Common.{map, take, string_bytes}
use Rattle.source_files.specs.Entries.{Give}
use Rattle.source_files.proofs.found.found_in.Given as goal

-- what the entries so far give
abbrev pub invariant-loop-entry : goal.invariant-loop-entry
invariant-loop-entry l =
    Give l.folder (take l.entry-index l.entries) (map string_bytes l.folders.items) (map string_bytes l.paths.items)
