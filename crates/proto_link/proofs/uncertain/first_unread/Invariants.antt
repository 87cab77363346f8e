use Rattle.proto_link.proofs.DoubtLemmas.{NoneSeen}
use Rattle.proto_link.proofs.uncertain.first_unread.Given as goal

abbrev pub invariant-loop-number : goal.invariant-loop-number
invariant-loop-number l = NoneSeen l.namespace l.file l.unread l.number-index
