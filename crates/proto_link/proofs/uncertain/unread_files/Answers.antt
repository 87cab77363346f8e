use Rattle.std.proofs.Common.{sym, subst, arith}
use Rattle.proto_link.specs.Tables.Doubts.{AreUnread}
use Rattle.proto_link.proofs.DoubtLemmas.{none_unread, unread_all}
use Rattle.proto_link.proofs.uncertain.unread_files.Goals as goal

pub loop-number-init : goal.loop-number-init
loop-number-init c =
    subst (AreUnread c.args.namespace.now 0) (sym c.new-numbers.ensures.items) (none_unread c.args.namespace.now)

pub loop-number-preserved : goal.loop-number-preserved
loop-number-preserved c = c.in_ok-add_if_unread.ensures c.loop-number.invariant

pub returns : goal.returns
returns c = unread_all c.args.namespace.now c.loop-number.number c.loop-number.numbers.items (omega arith)
    c.loop-number.invariant
