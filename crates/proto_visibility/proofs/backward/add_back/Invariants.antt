use Rattle.std.proofs.Common.{◌≡◌, length, take}
use Rattle.proto_visibility.proofs.BackwardLemmas.{AreAdded}
use Rattle.proto_visibility.proofs.backward.add_back.Given as goal

abbrev pub invariant-loop-number : goal.invariant-loop-number
invariant-loop-number l =
    record {
      size : length l.back.items ≡ length l.fn.back.items;
      added : AreAdded l.fn.back.items l.back.items (take l.number-index l.from) l.to;
    }
