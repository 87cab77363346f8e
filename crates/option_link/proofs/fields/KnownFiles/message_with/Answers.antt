use Rattle.std.proofs.Common.{◌≡◌, ℕ, Option, Some, None, MatchOption, sym, subst}
use Rattle.option_link.specs.Typed.{HasMessage, IsAroundIn, IsMessageAt}
use Rattle.option_link.specs.Typed.HasMessage.{around}
use Rattle.option_link.specs.declared.place.DeclaredPlace.{DeclaredPlace}
use Rattle.option_link.proofs.LoopLemmas.{option_as, some_of}
use Rattle.option_link.proofs.MessageLemmas.{extending_by, extending_not, around_to}
use Rattle.option_link.proofs.fields.KnownFiles.message_with.Goals as goal

pub returns-in_ok-found-in-Some : goal.returns-in_ok-found-in-Some
returns-in_ok-found-in-Some c =
    let files = c.args.self.names.now in
    let field = c.args.field in
    let name = c.args.full_name.now in
    let start = c.in-Some.start in
    let found = c.in_ok-found-in-Some.found in
    subst (λ (e : Option ℕ). MatchOption c.if_message.result
    ((message : DeclaredPlace) → HasMessage files field name e message → ⊥) (HasMessage files field name e))
    (sym c.in-Some.is)
    (option_as c.if_message.result ((place : DeclaredPlace) → found ≡ Some place → IsMessageAt files place → ⊥)
    ((message : DeclaredPlace) → HasMessage files field name (Some start) message → ⊥)
    (λ place. (found ≡ Some place) × IsMessageAt files place) (HasMessage files field name (Some start))
    (λ none message has. extending_not files c.linked.ensures.origins c.facts_in_order.ensures.uses
    c.facts_are_filled.ensures.uses field name start found c.in_ok-found-in-Some.ensures none message has)
    (λ message its. (let is = some_of _ _ _ its.0 c.in_ok-found-in-Some.ensures in
    extending_by files field name start is.0 message is.1 its.1)) c.if_message.ensures)

pub returns-in-None : goal.returns-in-None
returns-in-None c =
    let files = c.args.self.names.now in
    let field = c.args.field in
    let name = c.args.full_name.now in
    subst (λ (e : Option ℕ). MatchOption c.message_around.result
    ((message : DeclaredPlace) → HasMessage files field name e message → ⊥) (HasMessage files field name e))
    (sym c.in-None.is)
    (option_as c.message_around.result ((message : DeclaredPlace) → IsAroundIn files field.file name message → ⊥)
    ((message : DeclaredPlace) → HasMessage files field name None message → ⊥) (IsAroundIn files field.file name)
    (HasMessage files field name None)
    (λ none message has. none message (around_to files field name message has)) (λ message is. around is)
    c.message_around.ensures)
