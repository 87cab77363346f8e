use Rattle.std.proofs.Common.{◌≡◌, ◌↔◌, ◌∙◌, IsTrue, ap, subst, sym}
use Rattle.proto_options.specs.declared.messages.MessageClause.{MessageClause}
use Rattle.proto_options.specs.declared.messages.MessageClause.TheVariants as clauses
use Rattle.option_link.specs.Said.{asked_for}
use Rattle.option_link.proofs.said.is_asked_for.Goals as goal

pub returns-in-Reserves : goal.returns-in-Reserves
returns-in-Reserves c =
    subst (λ (clause : MessageClause). IsTrue c.is_wanted.result ↔ (clause ≡ asked_for c.args.word))
    (ap clauses.Reserves c.as_slice.ensures ∙ sym c.in-Reserves.is) c.is_wanted.ensures

pub returns-in-IsMessageSet : goal.returns-in-IsMessageSet
returns-in-IsMessageSet c =
    subst (λ (clause : MessageClause). IsTrue c.asks_for_set.result ↔ (clause ≡ asked_for c.args.word))
    (sym c.in-IsMessageSet.is) c.asks_for_set.ensures
