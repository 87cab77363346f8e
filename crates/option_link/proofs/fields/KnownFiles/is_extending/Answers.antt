use Rattle.std.proofs.Common.{◌≡◌, ℕ, Some, ap, ◌∙◌}
use Rattle.proto_options.specs.declared.fields.FieldFact.{FieldFact}
use Rattle.option_link.specs.Fields.{IsField}
use Rattle.option_link.proofs.ItemLemmas.{start_iff}
use Rattle.option_link.proofs.LoopLemmas.{iff_as, never_so}
use Rattle.option_link.proofs.PlaceLemmas.{one_fact}
use Rattle.option_link.proofs.fields.KnownFiles.is_extending.Goals as goal

pub returns-in-Some : goal.returns-in-Some
returns-in-Some c =
    let self = c.args.self in
    let files = self.names.now in
    let known = self.known.now in
    let fact = c.in-Some.fact in
    let field = c.in-Some.ensures.field in
    iff_as c.is_some.result ((start : ℕ) × (fact.extended ≡ Some start))
    ((its : FieldFact) × IsField files known c.args.place its × (start : ℕ) × (its.extended ≡ Some start))
    (λ x. (fact, field, x.0, x.1))
    (λ x. (
      x.2,
      ap (λ (f : FieldFact). f.extended) (one_fact files known self.in_order c.args.place fact x.0 field x.1)
          ∙ x.3,
    ))
    (start_iff fact.extended c.is_some.result c.is_some.ensures)

pub returns-in-None : goal.returns-in-None
returns-in-None c = never_so _ (λ x. c.in-None.ensures.field x.0 x.1)
