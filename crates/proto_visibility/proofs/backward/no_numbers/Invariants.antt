use Rattle.std.proofs.Common.{◌≡◌, ◌≤◌, None, All, length, vec_capacity}
use Rattle.proto_visibility.proofs.backward.no_numbers.Given as goal

abbrev pub invariant-loop : goal.invariant-loop
invariant-loop l = record {
  count : length l.numbers.items ≡ l.counter;
  none : All (λ number. number ≡ None) l.numbers.items;
  room : l.files ≤ vec_capacity l.numbers;
}
