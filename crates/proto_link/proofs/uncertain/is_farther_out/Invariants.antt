use Rattle.proto_link.proofs.LookupLemmas.{left}
use Rattle.proto_link.proofs.UncertainLemmas.{StandsFor}
use Rattle.proto_link.proofs.uncertain.is_farther_out.Given as goal

abbrev pub invariant-loop-next : goal.invariant-loop-next
invariant-loop-next l = StandsFor l.scope l.outer l.next

abbrev pub decreases-loop-next : goal.decreases-loop-next
decreases-loop-next l = left l.next
