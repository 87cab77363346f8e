use Rattle.std.proofs.Common.{◌≡◌, ◌≤◌, All, length, vec_capacity}
use Rattle.proto_visibility.proofs.BackwardLemmas.{HasNone}
use Rattle.proto_visibility.proofs.backward.no_steps.Given as goal

abbrev pub invariant-loop : goal.invariant-loop
invariant-loop l = record {
  count : length l.table.items ≡ l.counter;
  room : l.files ≤ vec_capacity l.table;
  none : All HasNone l.table.items;
}
