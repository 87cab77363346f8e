use Rattle.proto_visibility.proofs.SeeingReachableLemmas.{AreRead}
use Rattle.proto_visibility.proofs.seeing.first_unread.Given as goal

abbrev pub invariant-loop-number : goal.invariant-loop-number
invariant-loop-number l = AreRead l.files l.reachable l.number-index
