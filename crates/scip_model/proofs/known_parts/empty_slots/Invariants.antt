use Rattle.std.proofs.Common.{◌≡◌, ◌≤◌, All, length, vec_capacity, None}
use Rattle.scip_model.proofs.known_parts.empty_slots.Given as goal

abbrev pub invariant-loop : goal.invariant-loop
invariant-loop l = record {
  count : length l.slots.items ≡ l.counter;
  empty : All (λ slot. slot ≡ None) l.slots.items;
  room : l.count ≤ vec_capacity l.slots;
}
