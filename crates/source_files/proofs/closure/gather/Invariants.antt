use Rattle.std.proofs.Common.{◌≡◌, ◌++◌}
use Rattle.std.specs.Vec.Iter.{into_iter_items}
use Rattle.source_files.specs.Closures.{gathered}
use Rattle.source_files.proofs.closure.gather.Given as goal

-- what those so far gave
abbrev pub invariant-loop-one : goal.invariant-loop-one
invariant-loop-one l = record {
  all : l.fn.looked.items ≡ l.yielded ++ into_iter_items l.one-iterator;
  so_far : l.all ≡ gathered l.yielded;
}
