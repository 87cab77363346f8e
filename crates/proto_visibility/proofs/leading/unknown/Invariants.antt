use Rattle.std.proofs.Common.{◌≡◌, ◌≤◌, All, None, length, vec_capacity}
use Rattle.proto_visibility.proofs.leading.unknown.Given as goal

abbrev pub invariant-loop : goal.invariant-loop
invariant-loop l = record {
  size : length l.indexes.items ≡ l.counter;
  none : All (λ index. index ≡ None) l.indexes.items;
  room : l.count ≤ vec_capacity l.indexes;
}
