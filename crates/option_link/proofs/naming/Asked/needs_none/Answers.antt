use Rattle.std.proofs.Common.{◌↔◌, MatchOption, IsTrue}
use Rattle.option_link.specs.Contexts.{StandsIn}
use Rattle.option_link.specs.OptionNames.{NeedsNoTarget}
use Rattle.option_link.specs.Found.{NeedsNoneIn}
use Rattle.option_link.specs.declared.contexts.Context.{Context}
use Rattle.option_link.proofs.ContextLemmas.{one_context}
use Rattle.option_link.proofs.GivingLemmas.{needs_from, needs_to, needs_nowhere}
use Rattle.option_link.proofs.LoopLemmas.{iff_as, never_so, ok_as, some_of, none_of}
use Rattle.option_link.proofs.naming.Asked.needs_none.Goals as goal

pub returns-in-Some : goal.returns-in-Some
returns-in-Some c =
    let self = c.args.self in
    let files = self.files.names.now in
    let known = self.files.known.now in
    let file = self.file in
    let text = self.text.now in
    let option = self.option.now in
    let number = c.args.number in
    let name = c.args.name.now in
    let inner = c.in-Some.inner in
    ok_as c.needs_none_in.result (λ is. IsTrue is ↔ NeedsNoneIn files known file text option number name inner)
    (λ is. MatchOption c.args.context
    ((other : Context) → StandsIn files known file text option number other → ⊥)
    (StandsIn files known file text option number)
    → IsTrue is ↔ NeedsNoTarget files known file text option number name)
    (λ is iff told. (
    let stands = some_of _ _ _ c.in-Some.is told in
    iff_as is (NeedsNoneIn files known file text option number name inner)
    (NeedsNoTarget files known file text option number name)
    (needs_from files known file text option number name inner stands)
    (needs_to files known file text option number name inner (λ other its.
    one_context files c.linked.ensures.origins known self.files.in_order
    c.facts_in_order.ensures.names c.facts_in_order.ensures.uses c.facts_are_filled.ensures.uses file text option
    number other inner its stands)) iff)) c.needs_none_in.ensures

pub returns-in-None : goal.returns-in-None
returns-in-None c =
    let self = c.args.self in
    λ told. never_so _ (needs_nowhere self.files.names.now self.files.known.now self.file self.text.now
    self.option.now c.args.number c.args.name.now (none_of _ _ c.in-None.is told))
