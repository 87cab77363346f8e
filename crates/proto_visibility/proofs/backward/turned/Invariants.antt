use Rattle.std.proofs.Common.{◌≡◌, length}
use Rattle.proto_visibility.proofs.BackwardLemmas.{AreTurnedUpTo}
use Rattle.proto_visibility.proofs.backward.turned.Given as goal

abbrev pub invariant-loop-number : goal.invariant-loop-number
invariant-loop-number l =
    record {
      size : length l.back.items ≡ length l.table;
      turned : AreTurnedUpTo l.table l.back.items l.number;
    }
