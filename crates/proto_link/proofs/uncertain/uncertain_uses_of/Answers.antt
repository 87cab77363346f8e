use Rattle.std.proofs.Common.{length, sym, subst, arith}
use Rattle.proto_link.specs.Tables.Doubts.{AreUnread}
use Rattle.proto_link.proofs.DoubtLemmas.{AreDoubtedUpTo, none_doubted, doubted_up_to, all_doubted}
use Rattle.proto_link.proofs.uncertain.uncertain_uses_of.Goals as goal

pub loop-file-init : goal.loop-file-init
loop-file-init c =
    subst (AreDoubtedUpTo c.args.namespace.now 0) (sym c.new-doubted.ensures.items) (none_doubted c.args.namespace.now)

pub add_of_file-requires-clause-unread : goal.add_of_file-requires-clause-unread
add_of_file-requires-clause-unread c =
    subst (AreUnread c.args.namespace.now (length c.args.namespace.now)) (sym c.as_slice.ensures.value)
    c.in_ok-unread.ensures

pub loop-file-preserved : goal.loop-file-preserved
loop-file-preserved c =
    doubted_up_to c.args.namespace.now c.loop-file.file c.loop-file.doubted.items c.add_of_file.new.doubted.items
    c.loop-file.invariant c.in_ok-add_of_file.ensures

pub returns : goal.returns
returns c = all_doubted c.args.namespace.now c.loop-file.file c.loop-file.doubted.items (omega arith)
    c.loop-file.invariant
