use Rattle.std.proofs.Common.{◌≡◌, ◌++◌}
use Rattle.std.specs.Vec.Iter.{into_iter_items}
use Rattle.source_files.specs.Reading.{AddsRead}
use Rattle.source_files.proofs.reading.add_each.Given as goal

-- what was read of those so far
abbrev pub invariant-loop-read : goal.invariant-loop-read
invariant-loop-read l = record {
  all : l.fn.all.items ≡ l.yielded ++ into_iter_items l.read-iterator;
  added : AddsRead l.yielded l.fn.below l.below;
}
