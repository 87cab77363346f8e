use Rattle.std.proofs.Common.{◌≡◌, length}
use Rattle.proto_visibility.proofs.FileOrderLemmas.{AreRanked}
use Rattle.proto_visibility.proofs.file_order.ranks_of.Given as goal

abbrev pub invariant-loop-rank : goal.invariant-loop-rank
invariant-loop-rank l =
    record { size : length l.ranks.items ≡ l.count; ranked : AreRanked l.files l.ranks.items l.rank }
