use Rattle.option_link.specs.Found.{IsDefaultGiven, LeadsUnnamed}
use Rattle.option_link.specs.Found.LeadsUnnamed.{default, untold}
use Rattle.option_link.specs.declared.contexts.Context.{Context}
use Rattle.option_link.specs.declared.contexts.Context.TheVariants as inside
use Rattle.option_link.proofs.GivingLemmas.{taken_there, untold_acting, untold_given}
use Rattle.option_link.proofs.LoopLemmas.{fails, found_as}
use Rattle.option_link.proofs.naming.Asked.untold_gives.Goals as goal

pub returns-then-is_as : goal.returns-then-is_as
returns-then-is_as c =
    let self = c.args.self in
    λ inner x. untold_acting self.files.names.now self.files.known.now self.file self.text.now self.option.now
    c.args.number c.args.name.now inner x (c.is_as.ensures.0 c.if-is_as.true)

pub returns-then-not-is_taken : goal.returns-then-not-is_taken
returns-then-not-is_taken c =
    let not = fails c.is_taken.result _ c.is_taken.ensures
    c.if-not-is_taken.true in
    untold (λ place taken. not (place, taken)) (fails c.is_as.result _ c.is_as.ensures c.if-is_as.false)

pub returns-else-not-is_taken : goal.returns-else-not-is_taken
returns-else-not-is_taken c =
    let self = c.args.self in
    let files = self.files.names.now in
    let known = self.files.known.now in
    let text = self.text.now in
    let option = self.option.now in
    let number = c.args.number in
    let name = c.args.name.now in
    let place = c.in-Some.field in
    let taken = c.is_taken.ensures.0 c.if-not-is_taken.false in
    found_as c.field_given.result ((inner : Context) → IsDefaultGiven files known self.file place inner → ⊥)
    ((inner : Context) → LeadsUnnamed files known self.file text option number name inside.Untold inner → ⊥)
    (IsDefaultGiven files known self.file place)
    (LeadsUnnamed files known self.file text option number name inside.Untold)
    (λ none inner x. none inner (untold_given files known self.file text option number name place c.in-Some.ensures
    taken inner
    x))
    (λ inner given. default (taken_there text option place taken c.in-Some.ensures)
    (fails c.is_as.result _ c.is_as.ensures c.if-is_as.false) given) c.field_given.ensures

pub returns-in-None : goal.returns-in-None
returns-in-None c =
    untold (λ place taken. c.in-None.ensures place taken.of_field)
    (fails c.is_as.result _ c.is_as.ensures c.if-is_as.false)
