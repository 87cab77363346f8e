use Rattle.std.proofs.Common.{◌+◌, ◌∙◌, sym, subst}
use Rattle.std.proofs.lemmas.Bool.{false≢true}
use Rattle.proto_link.specs.Tables.Doubts.{AreUnread}
use Rattle.proto_link.proofs.DoubtLemmas.{unread_more, unread_skip}
use Rattle.proto_link.proofs.uncertain.add_if_unread.Goals as goal

pub returns-in_ok-push : goal.returns-in_ok-push
returns-in_ok-push c = λ are.
    subst (AreUnread c.args.namespace.now (c.args.number + 1)) (sym c.in_ok-push.ensures.items)
    (unread_more c.args.namespace.now c.args.number c.args.numbers.now.items (c.is_unread.ensures.0 c.if-is_unread.true)
    are)

pub returns-else-is_unread : goal.returns-else-is_unread
returns-else-is_unread c =
    unread_skip c.args.namespace.now c.args.number c.args.numbers.now.items
    (λ unread. false≢true (sym c.if-is_unread.false ∙ c.is_unread.ensures.1 unread))
