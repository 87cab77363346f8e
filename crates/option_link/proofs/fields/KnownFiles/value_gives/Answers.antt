use Rattle.option_link.specs.Fields.{ValueGives, MapGives}
use Rattle.option_link.specs.declared.contexts.Context.{Context}
use Rattle.option_link.proofs.LoopLemmas.{found_as}
use Rattle.option_link.proofs.FieldLemmas.{value_gives_to}
use Rattle.option_link.proofs.TableLemmas.{within_files}
use Rattle.option_link.proofs.fields.KnownFiles.value_gives.Goals as goal

pub map_gives-requires : goal.map_gives-requires
map_gives-requires c =
    within_files c.args.self.names.now c.args.map c.in-Some.ensures.field.declaration c.in-Some.ensures.field.stands

pub returns-in-Some : goal.returns-in-Some
returns-in-Some c =
    let files = c.args.self.names.now in
    let known = c.args.self.known.now in
    let field = c.args.map in
    let fact = c.in-Some.fact in
    let is = c.in-Some.ensures.field in
    found_as c.map_gives.result ((context : Context) → MapGives files field fact.kind context → ⊥)
    ((context : Context) → ValueGives files known field context → ⊥) (MapGives files field fact.kind)
    (ValueGives files known field)
    (λ none context gives. none context
    (value_gives_to files known c.args.self.in_order field fact is context gives))
    (λ context gives. record { fact = fact; is = is; gives = gives }) c.map_gives.ensures

pub returns-in-None : goal.returns-in-None
returns-in-None c = λ context gives. c.in-None.ensures.field gives.fact gives.is
