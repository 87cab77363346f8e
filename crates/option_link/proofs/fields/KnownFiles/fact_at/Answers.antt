use Rattle.proto_decl.specs.declared.declaration.DeclarationKind.TheVariants.{Field}
use Rattle.option_link.specs.Fields.{IsField}
use Rattle.option_link.specs.Typed.{IsFactNamed}
use Rattle.proto_options.specs.declared.fields.FieldFact.{FieldFact}
use Rattle.option_link.proofs.LoopLemmas.{fails, option_as, some_const}
use Rattle.option_link.proofs.FieldLemmas.{kind_at, field_from, field_to}
use Rattle.option_link.proofs.fields.KnownFiles.fact_at.Goals as goal

pub returns-then-not-is_a-clause-field : goal.returns-then-not-is_a-clause-field
returns-then-not-is_a-clause-field c = λ fact is.
    fails c.is_a.result _ c.is_a.ensures c.if-not-is_a.true
    (kind_at c.args.self.names.now c.args.self.known.now c.args.place c.in-Some.declared.now c.in-Some.ensures.stands
    Field is.declaration is.stands is.is)

pub returns-else-not-is_a-clause-small : goal.returns-else-not-is_a-clause-small
returns-else-not-is_a-clause-small c = some_const c.fact_named.result _ c.in-Some.ensures.small

pub returns-else-not-is_a-clause-field : goal.returns-else-not-is_a-clause-field
returns-else-not-is_a-clause-field c =
    let files = c.args.self.names.now in
    let known = c.args.self.known.now in
    let place = c.args.place in
    let d = c.in-Some.declared.now in
    let stands = c.in-Some.ensures.stands in
    option_as c.fact_named.result ((fact : FieldFact) → IsFactNamed known place.file c.name.result fact → ⊥)
    ((fact : FieldFact) → IsField files known place fact → ⊥) (IsFactNamed known place.file c.name.result)
    (IsField files known place)
    (λ none fact is. none fact (field_to files known place d stands c.name.result c.name.ensures fact is))
    (λ fact named. field_from files known place d stands c.name.result c.name.ensures
    (c.is_a.ensures.0 c.if-not-is_a.false) fact named) c.fact_named.ensures

pub returns-in-None-clause-field : goal.returns-in-None-clause-field
returns-in-None-clause-field c = λ fact is. c.in-None.ensures.stands is.declaration is.stands
