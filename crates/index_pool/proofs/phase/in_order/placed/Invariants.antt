use Rattle.std.proofs.Common.{◌≡◌, ◌++◌, length}
use Rattle.std.specs.Vec.Iter.{into_iter_items}
use Rattle.index_pool.proofs.InOrderLemmas.{Placed}
use Rattle.index_pool.proofs.phase.in_order.placed.Given as goal

abbrev pub invariant-loop-ran : goal.invariant-loop-ran
invariant-loop-ran g l = record {
  all : l.fn.results.items ≡ l.yielded ++ into_iter_items l.ran-iterator;
  count : length l.slots.items ≡ l.fn.inputs;
  placed : Placed l.yielded l.slots.items;
}
