use Rattle.std.proofs.Common.{◌≡◌, ◌≤◌, false, All, length, vec_capacity}
use Rattle.scip_model.proofs.pieces.clear_marks.Given as goal

abbrev pub invariant-loop : goal.invariant-loop
invariant-loop l = record {
  count : length l.marks.items ≡ l.counter;
  clear : All (λ mark. mark ≡ false) l.marks.items;
  room : l.count ≤ vec_capacity l.marks;
}
