use Rattle.std.proofs.Common.{◌≤◌, ◌-◌, length, map}
use Rattle.std.specs.String.{string_bytes}
use Rattle.scip_model.specs.Tables.Repeats.{AreNone}
use Rattle.scip_model.proofs.repeated.none_repeated.Given as goal

abbrev pub invariant-loop-alloc : goal.invariant-loop-alloc
invariant-loop-alloc l = record {
  size : length l.repeated.items ≤ l.count;
  none : AreNone (map (λ names. map string_bytes names.keys) l.repeated.items);
}

abbrev pub decreases-loop-alloc : goal.decreases-loop-alloc
decreases-loop-alloc l = l.count - length l.repeated.items
