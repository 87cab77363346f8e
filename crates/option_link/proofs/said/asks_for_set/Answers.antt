use Rattle.std.proofs.Common.{◌≡◌, List, ℕ, Option, ap, subst, sym}
use denote.Ref.{Bor}
use Rattle.proto_options.specs.declared.messages.MessageClause.TheVariants as clauses
use Rattle.option_link.specs.Said.{asked_for}
use Rattle.option_link.proofs.LoopLemmas.{always_so, never_so}
use Rattle.option_link.proofs.SaidLemmas.{set_reserves_none}
use Rattle.option_link.proofs.said.asks_for_set.Goals as goal

pub returns-in-Some : goal.returns-in-Some
returns-in-Some c =
    never_so _ (subst (λ (word : Option (Bor (List ℕ))). clauses.IsMessageSet ≡ asked_for word → ⊥)
    (sym c.in-Some.is) (set_reserves_none c.in-Some._wanted.now))

pub returns-in-None : goal.returns-in-None
returns-in-None c = always_so _ (ap asked_for (sym c.in-None.is))
