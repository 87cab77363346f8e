use Rattle.option_link.specs.Fields.{FieldGives}
use Rattle.option_link.specs.Found.{IsDefaultGiven}
use Rattle.option_link.specs.declared.contexts.Context.{Context}
use Rattle.option_link.proofs.DefaultLemmas.{one_declared}
use Rattle.option_link.proofs.GivenFieldLemmas.{given_by, given_to, given_there}
use Rattle.option_link.proofs.LoopLemmas.{found_as}
use Rattle.option_link.proofs.naming.Asked.field_given.Goals as goal

pub returns-in-Some : goal.returns-in-Some
returns-in-Some c =
    let self = c.args.self in
    let files = self.files.names.now in
    let known = self.files.known.now in
    let name = c.args.name in
    let field = c.in-Some.field in
    let at = c.in-Some.ensures in
    found_as c.field_gives.result ((inner : Context) → FieldGives files known field inner → ⊥)
    ((inner : Context) → IsDefaultGiven files known self.file name inner → ⊥) (FieldGives files known field)
    (IsDefaultGiven files known self.file name)
    (λ none inner x. none inner (given_to files known self.file name field (λ other its.
    one_declared files c.linked.ensures.origins c.facts_in_order.ensures.names self.file name other field its at) inner
    x))
    (λ inner gives. given_by files known self.file name field at inner gives) c.field_gives.ensures

pub returns-in-None : goal.returns-in-None
returns-in-None c = λ inner x.
    c.in-None.ensures x.field (given_there c.args.self.files.names.now c.args.self.files.known.now c.args.self.file
    c.args.name inner x)
