use Rattle.option_link.specs.Fields.{IsFieldOf}
use Rattle.option_link.specs.Typed.{HasMessage}
use Rattle.option_link.specs.declared.place.DeclaredPlace.{DeclaredPlace}
use Rattle.option_link.proofs.LoopLemmas.{found_as}
use Rattle.option_link.proofs.MessageLemmas.{field_of_by, field_of_to, field_of_fact}
use Rattle.option_link.proofs.TableLemmas.{within_files}
use Rattle.option_link.proofs.fields.KnownFiles.message_of.Goals as goal

pub message_with-requires : goal.message_with-requires
message_with-requires c =
    within_files c.args.self.names.now c.args.field c.in-Some.ensures.field.declaration c.in-Some.ensures.field.stands

pub returns-in-Some : goal.returns-in-Some
returns-in-Some c =
    let files = c.args.self.names.now in
    let known = c.args.self.known.now in
    let field = c.args.field in
    let name = c.args.full_name.now in
    let fact = c.in-Some.fact in
    let is = c.in-Some.ensures.field in
    found_as c.message_with.result ((message : DeclaredPlace) → HasMessage files field name fact.extended message → ⊥)
    ((message : DeclaredPlace) → IsFieldOf files known message field → ⊥) (HasMessage files field name fact.extended)
    (λ message. IsFieldOf files known message field)
    (λ none message of. none message (field_of_to files c.linked.ensures.origins c.facts_are_filled.ensures.names known
    c.args.self.in_order field c.requires.0 c.requires.1 name c.requires.2 fact is message of))
    (λ message has. field_of_by files c.linked.ensures.origins c.facts_are_filled.ensures.names known field c.requires.0
    c.requires.1 name c.requires.2 fact is message has) c.message_with.ensures

pub returns-in-None : goal.returns-in-None
returns-in-None c = λ message of.
    (let its = field_of_fact c.args.self.names.now c.args.self.known.now c.args.field message of in
    c.in-None.ensures.field its.0 its.1)
