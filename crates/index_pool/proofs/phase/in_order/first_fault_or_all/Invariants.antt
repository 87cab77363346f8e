use Rattle.std.proofs.Common.{◌≤◌, length, vec_capacity}
use Rattle.std.specs.Vec.Iter.{into_iter_items}
use Rattle.index_pool.proofs.InOrderLemmas.{Answered}
use Rattle.index_pool.proofs.phase.in_order.first_fault_or_all.Given as goal

abbrev pub invariant-loop-slot : goal.invariant-loop-slot
invariant-loop-slot g l = record {
  room : length l.fn.slots.items ≤ vec_capacity l.outs;
  answered : Answered l.fn.slots.items (into_iter_items l.slot-iterator) l.outs.items;
}
