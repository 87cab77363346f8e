use Rattle.std.proofs.Common.{length, sym, subst, arith}
use Rattle.proto_link.specs.Tables.Doubts.{AreUnread}
use Rattle.proto_link.specs.Uncertain.{AreFirstUnread}
use Rattle.proto_link.proofs.DoubtLemmas.{firsts_more, none_first}
use Rattle.proto_link.proofs.uncertain.first_unread_files.Goals as goal

pub loop-file-init : goal.loop-file-init
loop-file-init c =
    subst (AreFirstUnread c.args.namespace.now 0) (sym c.in_ok-firsts.ensures.items) (none_first c.args.namespace.now)

pub first_unread-first-requires-clause-unread : goal.first_unread-first-requires-clause-unread
first_unread-first-requires-clause-unread c =
    subst (AreUnread c.args.namespace.now (length c.args.namespace.now)) (sym c.as_slice.ensures.value)
    c.in_ok-unread.ensures

pub loop-file-preserved : goal.loop-file-preserved
loop-file-preserved c =
    subst (AreFirstUnread c.args.namespace.now _) (sym c.in_ok-push.ensures.items)
    (firsts_more c.args.namespace.now c.loop-file.file c.loop-file.firsts.items c.first_unread-first.result
    c.first_unread-first.ensures c.loop-file.invariant)

pub returns : goal.returns
returns c =
    subst (λ n. AreFirstUnread c.args.namespace.now n c.loop-file.firsts.items) (omega arith) c.loop-file.invariant
