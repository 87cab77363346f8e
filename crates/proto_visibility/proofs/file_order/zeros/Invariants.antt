use Rattle.std.proofs.Common.{◌≡◌, ◌≤◌, length, vec_capacity}
use Rattle.proto_visibility.proofs.file_order.zeros.Given as goal

abbrev pub invariant-loop : goal.invariant-loop
invariant-loop l = record { size : length l.zeros.items ≡ l.counter; room : l.count ≤ vec_capacity l.zeros }
