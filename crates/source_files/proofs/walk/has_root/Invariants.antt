use Rattle.std.proofs.Common.{[], Contains, map, take}
use Rattle.source_files.specs.Unread.{at_path, unread_of}
use Rattle.source_files.proofs.walk.has_root.Given as goal

-- the root isn't among those so far
abbrev pub invariant-loop-entry : goal.invariant-loop-entry
invariant-loop-entry l = ¬ (Contains (map unread_of (take l.entry-index l.unread)) (at_path []))
