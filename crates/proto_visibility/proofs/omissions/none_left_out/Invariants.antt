use Rattle.std.proofs.Common.{◌≡◌, ◌≤◌, None, All, length, vec_capacity}
use Rattle.proto_visibility.proofs.omissions.none_left_out.Given as goal

abbrev pub invariant-loop : goal.invariant-loop
invariant-loop l = record {
  count : length l.omissions.items ≡ l.counter;
  none : All (λ omission. omission ≡ None) l.omissions.items;
  room : l.count ≤ vec_capacity l.omissions;
}
