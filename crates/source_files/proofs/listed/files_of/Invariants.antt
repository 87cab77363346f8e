use Rattle.std.proofs.Common.{◌≡◌, ◌++◌}
use Rattle.std.specs.Vec.Iter.{into_iter_items}
use Rattle.source_files.specs.ListedTrees.{files_of}
use Rattle.source_files.proofs.listed.files_of.Given as goal

-- the files so far
abbrev pub invariant-loop-found : goal.invariant-loop-found
invariant-loop-found l = record {
  all : l.fn.all.items ≡ l.yielded ++ into_iter_items l.found-iterator;
  so_far : l.files.items ≡ files_of l.yielded;
}
