use Rattle.option_link.specs.Fields.{FieldGives, KindGives}
use Rattle.option_link.specs.declared.contexts.Context.{Context}
use Rattle.option_link.proofs.LoopLemmas.{found_as}
use Rattle.option_link.proofs.FieldLemmas.{field_gives_to}
use Rattle.option_link.proofs.TableLemmas.{within_files}
use Rattle.option_link.proofs.fields.KnownFiles.field_gives_anew.Goals as goal

pub kind_gives-requires-clause-file : goal.kind_gives-requires-clause-file
kind_gives-requires-clause-file c =
    within_files c.args.self.names.now c.args.field c.in-Some.ensures.field.declaration c.in-Some.ensures.field.stands

pub returns-in-Some : goal.returns-in-Some
returns-in-Some c =
    let files = c.args.self.names.now in
    let known = c.args.self.known.now in
    let field = c.args.field in
    let fact = c.in-Some.fact in
    let is = c.in-Some.ensures.field in
    found_as c.kind_gives.result ((context : Context) → KindGives files field fact.kind context → ⊥)
    ((context : Context) → FieldGives files known field context → ⊥) (KindGives files field fact.kind)
    (FieldGives files known field)
    (λ none context gives. none context
    (field_gives_to files known c.args.self.in_order field fact is context gives))
    (λ context gives. record { fact = fact; is = is; gives = gives }) c.kind_gives.ensures

pub returns-in-None : goal.returns-in-None
returns-in-None c = λ context gives. c.in-None.ensures.field gives.fact gives.is
