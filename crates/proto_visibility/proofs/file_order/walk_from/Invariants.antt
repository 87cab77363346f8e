use Rattle.std.proofs.Common.{◌≡◌, ◌+◌, ◌*◌, ◌-◌, ℕ, length}
use Rattle.std.specs.List.{Contains}
use Rattle.proto_visibility.proofs.file_order.walk_from.Given as goal

abbrev pub invariant-loop-turn : goal.invariant-loop-turn
invariant-loop-turn l = record {
  files : l.search.files ≡ length l.table;
  kept : (number : ℕ) → Contains l.fn.search.numbers number → Contains l.search.numbers number;
  found : Contains l.search.numbers l.file;
}

abbrev pub decreases-loop-turn : goal.decreases-loop-turn
decreases-loop-turn l = length l.turns.items + 2 * (l.search.files - length l.search.numbers)
