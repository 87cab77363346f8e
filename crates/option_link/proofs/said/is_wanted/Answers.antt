use Rattle.std.proofs.Common.{◌≡◌, ◌↔◌, IsTrue, List, ℕ, Option, subst, sym}
use denote.Ref.{Bor}
use Rattle.proto_options.specs.declared.messages.MessageClause.TheVariants as clauses
use Rattle.option_link.specs.Said.{asked_for}
use Rattle.option_link.proofs.LoopLemmas.{never_so}
use Rattle.option_link.proofs.SaidLemmas.{reserves_iff, reserves_no_set}
use Rattle.option_link.proofs.said.is_wanted.Goals as goal

pub returns-in-Some : goal.returns-in-Some
returns-in-Some c =
    let bytes = c.args.bytes.now in
    subst (λ (word : Option (Bor (List ℕ))). IsTrue c.is_spelled.result ↔ (clauses.Reserves bytes ≡ asked_for word))
    (sym c.in-Some.is) (reserves_iff bytes c.in-Some.wanted.now c.is_spelled.result c.is_spelled.ensures)

pub returns-in-None : goal.returns-in-None
returns-in-None c =
    let bytes = c.args.bytes.now in
    never_so _ (subst (λ (word : Option (Bor (List ℕ))). clauses.Reserves bytes ≡ asked_for word → ⊥)
    (sym c.in-None.is) (reserves_no_set bytes))
