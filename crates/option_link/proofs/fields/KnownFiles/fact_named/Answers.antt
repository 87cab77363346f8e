use Rattle.std.specs.List.{Contains}
use Rattle.std.proofs.Common.{◌≡◌}
use Rattle.proto_options.specs.declared.fields.FieldFact.{FieldFact}
use Rattle.option_link.specs.Typed.{IsFactNamed}
use Rattle.option_link.proofs.LoopLemmas.{option_as}
use Rattle.option_link.proofs.BesideLemmas.{fields_rise, fact_from, fact_to}
use Rattle.option_link.proofs.fields.KnownFiles.fact_named.Goals as goal

pub field_among-requires : goal.field_among-requires
field_among-requires c =
    fields_rise c.args.self.known.now c.args.file c.fields_of.result.now c.args.self.in_order c.fields_of.ensures

pub returns : goal.returns
returns c =
    let known = c.args.self.known.now in
    let file = c.args.file in
    let name = c.args.name in
    let fields = c.fields_of.result.now in
    option_as c.field_among.result ((fact : FieldFact) → Contains fields fact → fact.name ≡ name → ⊥)
    ((fact : FieldFact) → IsFactNamed known file name fact → ⊥) (λ fact. Contains fields fact × (fact.name ≡ name))
    (IsFactNamed known file name)
    (λ none fact named. none fact (fact_to known file fields name fact c.fields_of.ensures named) named.same)
    (λ fact its. fact_from known file fields name fact c.fields_of.ensures its.0 its.1) c.field_among.ensures
