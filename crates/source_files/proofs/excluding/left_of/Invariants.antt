use Rattle.std.proofs.Common.{◌≡◌, ◌++◌, map, string_bytes}
use Rattle.std.specs.Vec.Iter.{into_iter_items}
use Rattle.source_files.specs.Exclusions.{Stay}
use Rattle.source_files.proofs.excluding.left_of.Given as goal

-- what is left of those so far
abbrev pub invariant-loop-one : goal.invariant-loop-one
invariant-loop-one g l = record {
  all : l.fn.all.items ≡ l.yielded ++ into_iter_items l.one-iterator;
  stay : Stay g.N.Named.name_of (map string_bytes l.patterns) l.folder l.yielded l.left.items;
}
