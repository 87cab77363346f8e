use Rattle.std.proofs.Common.{◌≡◌, ◌++◌, map}
use Rattle.std.specs.Vec.Iter.{into_iter_items}
use Rattle.source_files.specs.Roots.{all_unread, files_of}
use Rattle.source_files.specs.Unread.{unread_of}
use Rattle.source_files.proofs.load.add_each.Given as goal

-- what was read below the roots so far
abbrev pub invariant-loop-below : goal.invariant-loop-below
invariant-loop-below l = record {
  all : l.fn.each.items ≡ l.yielded ++ into_iter_items l.below-iterator;
  files : l.files.items ≡ l.fn.files.items ++ files_of l.yielded;
  unread : map unread_of l.unread.items ≡ map unread_of l.fn.unread.items ++ all_unread l.yielded;
}
