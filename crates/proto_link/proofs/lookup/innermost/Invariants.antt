use Rattle.proto_visibility.specs.Knows.{admits}
use Rattle.proto_link.proofs.LookupLemmas.{StandsFor, left}
use Rattle.proto_link.proofs.lookup.innermost.Given as goal

abbrev pub invariant-loop-next : goal.invariant-loop-next
invariant-loop-next l = StandsFor l.namespace l.file (admits l.role) l.word l.next l.scope

abbrev pub decreases-loop-next : goal.decreases-loop-next
decreases-loop-next l = left l.next
