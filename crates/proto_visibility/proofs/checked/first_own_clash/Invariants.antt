use Rattle.proto_visibility.proofs.DuplicateLemmas.{NoneOwnUpTo}
use Rattle.proto_visibility.proofs.checked.first_own_clash.Given as goal

abbrev pub invariant-loop-number : goal.invariant-loop-number
invariant-loop-number l = NoneOwnUpTo l.files l.reachable l.number-index
