use Rattle.std.proofs.Common.{◌≡◌, ◌≤◌, All, length, vec_capacity, None}
use Rattle.index_pool.proofs.phase.in_order.empty_slots.Given as goal

abbrev pub invariant-loop : goal.invariant-loop
invariant-loop g l = record {
  count : length l.slots.items ≡ l.counter;
  empty : All (λ slot. slot ≡ None) l.slots.items;
  room : l.inputs ≤ vec_capacity l.slots;
}
