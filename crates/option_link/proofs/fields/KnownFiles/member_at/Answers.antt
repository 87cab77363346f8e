use Rattle.option_link.specs.Found.IsMemberHere.{plain}
use Rattle.option_link.specs.Typed.{IsMessageAt}
use Rattle.option_link.proofs.LoopLemmas.{fails}
use Rattle.option_link.proofs.OwnFieldLemmas.{no_field_here, not_plain_here}
use Rattle.option_link.proofs.fields.KnownFiles.member_at.Goals as goal

pub returns-then-not-is_plain : goal.returns-then-not-is_plain
returns-then-not-is_plain c =
    let self = c.args.self in
    not_plain_here self.names.now self.known.now self.in_order c.args.place c.args.in_braces
    (fails c.is_message_at.result (IsMessageAt self.names.now c.args.place) c.is_message_at.ensures
    c.if-is_message_at.false) c.in-Some.fact c.in-Some.ensures.field
    (fails c.is_plain.result _ c.is_plain.ensures c.if-not-is_plain.true)

pub returns-else-not-is_plain : goal.returns-else-not-is_plain
returns-else-not-is_plain c =
    let its = c.is_plain.ensures.0 c.if-not-is_plain.false in
    plain c.in-Some.ensures.field its.0 its.1

pub returns-in-None : goal.returns-in-None
returns-in-None c =
    let self = c.args.self in
    no_field_here self.names.now self.known.now self.in_order c.args.place c.args.in_braces
    (fails c.is_message_at.result (IsMessageAt self.names.now c.args.place) c.is_message_at.ensures
    c.if-is_message_at.false) c.in-None.ensures.field
