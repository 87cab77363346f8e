use Rattle.std.proofs.Common.{◌≡◌, ◌++◌, map}
use Rattle.std.specs.Vec.Iter.{into_iter_items}
use Rattle.source_files.specs.Unread.{unread_of}
use Rattle.programs.specs.Folders.{path_unread}
use Rattle.programs.proofs.unread_paths.paths_unread.Given as goal

-- what is told of those so far
abbrev pub invariant-loop-entry : goal.invariant-loop-entry
invariant-loop-entry l = record {
  all : l.fn.entries.items ≡ l.yielded ++ into_iter_items l.entry-iterator;
  so_far : l.paths.items ≡ map path_unread (map unread_of l.yielded);
}
