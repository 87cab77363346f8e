use Rattle.std.proofs.Common.{◌≡◌, ◌++◌, map}
use Rattle.std.specs.Vec.Iter.{into_iter_items}
use Rattle.source_files.specs.WalkSteps.{KeepsMore, had_of}
use Rattle.source_files.proofs.walk.keep_each.Given as goal

-- what is kept of those so far
abbrev pub invariant-loop-found : goal.invariant-loop-found
invariant-loop-found l = record {
  all : l.fn.all.items ≡ l.yielded ++ into_iter_items l.found-iterator;
  kept : KeepsMore (map had_of l.yielded) l.fn.walk l.walk;
}
