use Rattle.std.proofs.Common.{refl, subst}
use Rattle.option_link.specs.Contexts.{MayBeExtended}
use Rattle.option_link.proofs.LoopLemmas.{fails, some_of, none_of}
use Rattle.option_link.proofs.MemberLemmas.{one_message}
use Rattle.option_link.proofs.naming.Asked.if_extends.Goals as goal

pub returns-then-not-may : goal.returns-then-not-may
returns-then-not-may c =
    let self = c.args.self in
    let files = self.files.names.now in
    let known = self.files.known.now in
    let is = some_of _ _ _ c.in-Some.is c.in_ok-message.ensures in
    λ message may of. fails c.in_ok-may-in-Some.may _ c.in_ok-may-in-Some.ensures c.if-not-may.true
    (subst (MayBeExtended files self.option.now c.args.context) (one_message files c.linked.ensures.origins
    c.facts_are_filled.ensures.names known self.files.in_order c.facts_in_order.ensures.uses
    c.facts_are_filled.ensures.uses message c.in-Some.message c.args.field of is) may)

pub returns-else-not-may : goal.returns-else-not-may
returns-else-not-may c = (
  refl,
  (
    c.in-Some.message,
    c.in_ok-may-in-Some.ensures.0 c.if-not-may.false,
    some_of _ _ _ c.in-Some.is c.in_ok-message.ensures,
  ),
)

pub returns-in-None : goal.returns-in-None
returns-in-None c = λ message may of. none_of _ _ c.in-None.is c.in_ok-message.ensures message of
