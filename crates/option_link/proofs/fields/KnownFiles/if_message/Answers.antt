use Rattle.std.proofs.Common.{sym, ◌∙◌, subst}
use Rattle.std.proofs.lemmas.Option.{same_Some}
use Rattle.option_link.specs.Typed.{IsMessageAt}
use Rattle.option_link.proofs.LoopLemmas.{fails}
use Rattle.option_link.proofs.fields.KnownFiles.if_message.Goals as goal

pub returns-then-not-is_message_at : goal.returns-then-not-is_message_at
returns-then-not-is_message_at c = λ place is message.
    fails c.is_message_at.result _ c.is_message_at.ensures c.if-not-is_message_at.true
    (subst (IsMessageAt c.args.self.names.now) (sym (same_Some c.in-Some.place place (sym c.in-Some.is ∙ is))) message)

pub returns-else-not-is_message_at : goal.returns-else-not-is_message_at
returns-else-not-is_message_at c = (c.in-Some.is, c.is_message_at.ensures.0 c.if-not-is_message_at.false)
