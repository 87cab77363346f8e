use Rattle.std.proofs.Common.{◌≡◌, Some}
use Rattle.option_link.specs.Typed.{IsAroundIn, IsMessageAt}
use Rattle.option_link.specs.declared.place.DeclaredPlace.{DeclaredPlace}
use Rattle.option_link.proofs.LoopLemmas.{option_as, some_of}
use Rattle.option_link.proofs.MessageLemmas.{around_by, around_not, none_around}
use Rattle.option_link.proofs.fields.KnownFiles.message_around.Goals as goal

pub returns-in-Some : goal.returns-in-Some
returns-in-Some c =
    let files = c.args.self.names.now in
    let file = c.args.file in
    let name = c.args.full_name.now in
    let scope = c.in-Some.scope.now in
    let found = c.only_in.result in
    option_as c.if_message.result ((place : DeclaredPlace) → found ≡ Some place → IsMessageAt files place → ⊥)
    ((message : DeclaredPlace) → IsAroundIn files file name message → ⊥)
    (λ place. (found ≡ Some place) × IsMessageAt files place) (IsAroundIn files file name)
    (λ none message around. around_not files file name scope c.in-Some.ensures.around found
    c.only_in.ensures
    none message around)
    (λ message its. around_by files file name scope c.in-Some.ensures.around message
    (some_of _ _ _ its.0 c.only_in.ensures) its.1) c.if_message.ensures

pub returns-in-None : goal.returns-in-None
returns-in-None c = none_around c.args.self.names.now c.args.file c.args.full_name.now c.in-None.ensures.around
