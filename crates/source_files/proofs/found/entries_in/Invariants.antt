use Rattle.std.proofs.Common.{◌≡◌, map, take}
use Rattle.source_files.specs.Unread.{in_folder, unread_of}
use Rattle.source_files.proofs.found.entries_in.Given as goal

-- the entries so far
abbrev pub invariant-loop-named : goal.invariant-loop-named
invariant-loop-named l =
    map unread_of l.entries.items ≡ map (λ named. in_folder l.folder (unread_of named)) (take l.named-index l.names)
