use Rattle.proto_link.specs.Tables.Doubts.{AreUnread}
use Rattle.proto_link.proofs.uncertain.unread_files.Given as goal

abbrev pub invariant-loop-number : goal.invariant-loop-number
invariant-loop-number l = AreUnread l.namespace l.number l.numbers.items
