use Rattle.std.proofs.Common.{◌≡◌, Some, ap, sym, ◌∙◌}
use Rattle.std.proofs.lemmas.Option.{none-some, same_Some}
use Rattle.option_link.specs.declared.contexts.Context.TheVariants as inside
use Rattle.option_link.proofs.ItemLemmas.{given_to}
use Rattle.option_link.proofs.LoopLemmas.{iff_as, never_so, some_of}
use Rattle.option_link.proofs.items.is_message.Goals as goal

pub returns-in-Some : goal.returns-in-Some
returns-in-Some c =
    let message = c.args.message in
    let found = c.message_in.result in
    iff_as c.is_place.result (found ≡ Some message) (c.args.given ≡ Some (inside.Message message))
    (λ is. c.in-Some.is ∙ ap Some (some_of _ _ message is c.message_in.ensures))
    (λ is. given_to c.in-Some.context found message c.message_in.ensures
    (same_Some c.in-Some.context (inside.Message message) (sym c.in-Some.is ∙ is)))
    c.is_place.ensures

pub returns-in-None : goal.returns-in-None
returns-in-None c = never_so _ (λ is. none-some (inside.Message c.args.message) (sym c.in-None.is ∙ is))
