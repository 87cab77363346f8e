use Rattle.std.proofs.Common.{◌≡◌, List, MatchOption, subst}
use Rattle.std.specs.List.{Contains}
use Rattle.option_link.specs.declared.place.DeclaredPlace.{DeclaredPlace}
use Rattle.option_link.proofs.messages.NamedMessages.of_file.Goals as goal

pub returns : goal.returns
returns c =
    subst (λ (places : List DeclaredPlace). MatchOption c.place_in.result
    ((message : DeclaredPlace) → Contains places message → message.file ≡ c.args.file → ⊥)
    (λ message. Contains places message × (message.file ≡ c.args.file))) c.as_slice.ensures.value c.place_in.ensures
