use Rattle.std.proofs.Common.{◌≡◌, List, [], MatchOption, subst}
use Rattle.std.specs.List.{slice_get}
use Rattle.option_link.specs.declared.facts.OptionFacts.{OptionFacts}
use Rattle.option_link.specs.Said.{asked_for, saying}
use Rattle.option_link.proofs.LoopLemmas.{never_so}
use Rattle.option_link.proofs.SaidLemmas.{not_said_at, said_at_iff}
use Rattle.option_link.proofs.said.SaidOfMessages.is_said_at.Goals as goal

pub returns-then-place-file : goal.returns-then-place-file
returns-then-place-file c = never_so _ (λ x. c.if-place-file.true x.0)

pub returns-in-Some : goal.returns-in-Some
returns-in-Some c =
    let place = c.args.place in
    let facts = c.messages_of.result.now in
    said_at_iff c.args.self.now c.args.file place facts (saying c.args.name (asked_for c.args.word))
    (subst (λ (known : List OptionFacts). MatchOption (slice_get known place.file) (facts ≡ [])
    (λ beside. facts ≡ beside.messages)) c.self.view_is c.messages_of.ensures)
    c.in-Some.fact.now c.is_saying.result c.if-place-file.false c.in-Some.ensures c.is_saying.ensures

pub returns-in-None : goal.returns-in-None
returns-in-None c =
    let place = c.args.place in
    let facts = c.messages_of.result.now in
    never_so _ (not_said_at c.args.self.now c.args.file place facts (saying c.args.name (asked_for c.args.word))
    (subst (λ (known : List OptionFacts). MatchOption (slice_get known place.file) (facts ≡ [])
    (λ beside. facts ≡ beside.messages)) c.self.view_is c.messages_of.ensures)
    c.in-None.ensures)
