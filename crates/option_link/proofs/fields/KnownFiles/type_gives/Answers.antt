use Rattle.option_link.specs.Fields.{TypeGives}
use Rattle.option_link.specs.Typed.{GivesAt}
use Rattle.option_link.specs.declared.contexts.Context.{Context}
use Rattle.option_link.proofs.LoopLemmas.{option_as, some_of, none_of}
use Rattle.option_link.proofs.FieldLemmas.{type_gives_from, type_gives_some, type_gives_none}
use Rattle.option_link.proofs.fields.KnownFiles.type_gives.Goals as goal

pub returns-in-Some : goal.returns-in-Some
returns-in-Some c =
    let files = c.args.self.names.now in
    let file = c.args.file in
    let start = c.args.start in
    let place = c.in-Some.place in
    let is = some_of _ _ _ c.in-Some.is c.in_ok-place.ensures in
    option_as c.context_at.result ((context : Context) → GivesAt files place context → ⊥)
    ((context : Context) → TypeGives files file start context → ⊥) (GivesAt files place) (TypeGives files file start)
    (λ none. absurd (type_gives_some files file start is.0 place is.1 none))
    (λ context gives. type_gives_from files file start is.0 place is.1 context gives) c.context_at.ensures

pub returns-in-None : goal.returns-in-None
returns-in-None c =
    let none = none_of _ _ c.in-None.is c.in_ok-place.ensures in
    type_gives_none c.args.self.names.now c.args.file c.args.start none
