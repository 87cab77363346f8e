use Rattle.std.proofs.Common.{MatchOption, IfOk, sym, subst}
use Rattle.proto_options.specs.declared.names.OptionRole.{OptionRole}
use Rattle.proto_options.specs.declared.names.OptionRole.TheVariants as role
use Rattle.option_link.specs.Contexts.{PlaceGives}
use Rattle.option_link.specs.Contexts.PlaceGives.{field, extension, message}
use Rattle.option_link.specs.Fields.{FieldGives}
use Rattle.option_link.specs.declared.contexts.Context.{Context}
use Rattle.option_link.specs.declared.contexts.Context.TheVariants as inside
use Rattle.option_link.proofs.LoopLemmas.{found_as}
use Rattle.option_link.proofs.PlaceGivesLemmas.{field_given_to, extension_given_to, value_gives_none}
use Rattle.option_link.proofs.PlaceGivesLemmas.{elsewhere_gives_none}
use Rattle.option_link.proofs.naming.Asked.place_gives.Goals as goal

pub returns-in-Field : goal.returns-in-Field
returns-in-Field c =
    let files = c.args.self.files.names.now in
    let known = c.args.self.files.known.now in
    let place = c.args.place in
    subst (λ (acting : OptionRole). IfOk c.field_gives.result (λ found. MatchOption found
    ((inner : Context) → PlaceGives files known acting place inner → ⊥) (PlaceGives files known acting place)))
    (sym c.in-Field.is)
    (found_as c.field_gives.result ((inner : Context) → FieldGives files known place inner → ⊥)
    ((inner : Context) → PlaceGives files known role.Field place inner → ⊥) (FieldGives files known place)
    (PlaceGives files known role.Field place) (λ none inner x. none inner (field_given_to files known place inner x))
    (λ inner x. field x) c.field_gives.ensures)

pub returns-in-Extension : goal.returns-in-Extension
returns-in-Extension c =
    let files = c.args.self.files.names.now in
    let known = c.args.self.files.known.now in
    let place = c.args.place in
    subst (λ (acting : OptionRole). IfOk c.field_gives-in-Extension.result (λ found. MatchOption found
    ((inner : Context) → PlaceGives files known acting place inner → ⊥) (PlaceGives files known acting place)))
    (sym c.in-Extension.is)
    (found_as c.field_gives-in-Extension.result ((inner : Context) → FieldGives files known place inner → ⊥)
    ((inner : Context) → PlaceGives files known role.Extension place inner → ⊥) (FieldGives files known place)
    (PlaceGives files known role.Extension place) (λ none inner x. none inner
    (extension_given_to files known place inner x))
    (λ inner x. extension x) c.field_gives-in-Extension.ensures)

pub returns-in-Message : goal.returns-in-Message
returns-in-Message c =
    subst (λ (acting : OptionRole). PlaceGives c.args.self.files.names.now c.args.self.files.known.now acting
    c.args.place
    (inside.Message c.args.place)) (sym c.in-Message.is) message

pub returns-in-Value : goal.returns-in-Value
returns-in-Value c =
    subst (λ (acting : OptionRole). (inner : Context) → PlaceGives c.args.self.files.names.now
    c.args.self.files.known.now acting c.args.place inner → ⊥) (sym c.in-Value.is)
    (value_gives_none c.args.self.files.names.now c.args.self.files.known.now c.args.place)

pub returns-in-Elsewhere : goal.returns-in-Elsewhere
returns-in-Elsewhere c =
    subst (λ (acting : OptionRole). (inner : Context) → PlaceGives c.args.self.files.names.now
    c.args.self.files.known.now acting c.args.place inner → ⊥) (sym c.in-Elsewhere.is)
    (elsewhere_gives_none c.args.self.files.names.now c.args.self.files.known.now c.args.place)
