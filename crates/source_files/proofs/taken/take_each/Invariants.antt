use Rattle.std.proofs.Common.{◌≡◌, ◌++◌, [], map}
use Rattle.std.specs.Vec.Iter.{into_iter_items}
use Rattle.source_files.specs.Taken.{AddsTaken}
use Rattle.source_files.specs.Unread.{unread_of}
use Rattle.source_files.proofs.taken.take_each.Given as goal

-- those so far that are taken
abbrev pub invariant-loop-file : goal.invariant-loop-file
invariant-loop-file l = record {
  all : l.fn.files.items ≡ l.yielded ++ into_iter_items l.file-iterator;
  added : AddsTaken l.leaves_out l.yielded [] l.taken.items (map unread_of l.fn.unread.items)
      (map unread_of l.unread.items);
}
