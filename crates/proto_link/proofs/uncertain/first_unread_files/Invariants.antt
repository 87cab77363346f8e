use Rattle.proto_link.specs.Uncertain.{AreFirstUnread}
use Rattle.proto_link.proofs.uncertain.first_unread_files.Given as goal

abbrev pub invariant-loop-file : goal.invariant-loop-file
invariant-loop-file l = AreFirstUnread l.namespace l.file l.firsts.items
