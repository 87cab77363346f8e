use Rattle.std.proofs.Common.{◌≡◌, length}
use Rattle.proto_visibility.proofs.BackwardLemmas.{AreSetUpTo}
use Rattle.proto_visibility.proofs.backward.set_behind.Given as goal

abbrev pub invariant-loop-index : goal.invariant-loop-index
invariant-loop-index l =
    record {
      size : length l.firsts.items ≡ length l.fn.firsts.items;
      set : AreSetUpTo l.numbers l.from l.end l.fn.firsts.items l.firsts.items l.index;
    }
