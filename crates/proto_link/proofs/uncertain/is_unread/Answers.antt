use Rattle.std.proofs.lemmas.Bool.{false≢true}
use Rattle.proto_link.proofs.DoubtLemmas.{not_unread, unread_without}
use Rattle.std.proofs.Common.{refl}
use Rattle.proto_link.proofs.uncertain.is_unread.Goals as goal

pub returns-in-Some : goal.returns-in-Some
returns-in-Some c = (
  λ t. absurd (false≢true t),
  λ unread. absurd (not_unread c.args.namespace.now c.args.number _ c.in-Some.ensures unread),
)

pub returns-in-None : goal.returns-in-None
returns-in-None c = (
  λ t. unread_without c.args.namespace.now c.args.number c.requires c.in-None.ensures,
  λ unread. refl,
)
