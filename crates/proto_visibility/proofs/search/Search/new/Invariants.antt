use Rattle.std.proofs.Common.{◌≡◌, ◌≤◌, false, All, length, vec_capacity}
use Rattle.proto_visibility.proofs.search.Search.new.Given as goal

abbrev pub invariant-loop : goal.invariant-loop
invariant-loop l = record {
  count : length l.marks.items ≡ l.counter;
  clear : All (λ mark. mark ≡ false) l.marks.items;
  room : l.files ≤ vec_capacity l.marks;
}
