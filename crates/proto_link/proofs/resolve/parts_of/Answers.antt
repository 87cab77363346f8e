use Rattle.std.proofs.Common.{Option, MatchOption, subst}
use denote.Ref.{Bor}
use Rattle.proto_decl.specs.Facts.{Facts}
use Rattle.proto_visibility.specs.Files.{HasFacts}
use Rattle.proto_visibility.specs.Knows.{is_type}
use Rattle.proto_link.specs.Tables.Parts.{AreEntitiesOf, AreEntitiesAt}
use Rattle.proto_link.proofs.ResolveLemmas.{ok_each}
use Rattle.proto_link.proofs.TargetLemmas.{facts_known, gives_there, some_facts}
use Rattle.proto_link.proofs.resolve.parts_of.Goals as goal

pub unwrap-facts-requires : goal.unwrap-facts-requires
unwrap-facts-requires c =
    let files = c.args.namespace.now in
    let owner = c.args.owner in
    let name = c.args.name.now in
    some_facts (λ (facts : Bor Facts). HasFacts files owner facts.now) files owner c.requires.gives.gives.facts
    c.facts_of.result (facts_known files is_type name owner c.requires.gives) c.facts_of.ensures

pub parts_in-requires-clause-has : goal.parts_in-requires-clause-has
parts_in-requires-clause-has c =
    let files = c.args.namespace.now in
    let owner = c.args.owner in
    subst (λ (o : Option (Bor Facts)). MatchOption o ((facts : Facts) → HasFacts files owner facts → ⊥)
    (λ facts. HasFacts files owner facts.now)) c.unwrap-facts.ensures c.facts_of.ensures

pub parts_in-requires-clause-declared : goal.parts_in-requires-clause-declared
parts_in-requires-clause-declared c =
    let files = c.args.namespace.now in
    let owner = c.args.owner in
    let has = subst (λ (o : Option (Bor Facts)). MatchOption o ((facts : Facts) → HasFacts files owner facts → ⊥)
    (λ facts. HasFacts files owner facts.now)) c.unwrap-facts.ensures c.facts_of.ensures in
    gives_there files is_type c.args.name.now owner c.unwrap-facts.result.now c.requires.gives has

pub returns : goal.returns
returns c =
    let files = c.args.namespace.now in
    let owner = c.args.owner in
    let name = c.args.name.now in
    let has = subst (λ (o : Option (Bor Facts)). MatchOption o ((facts : Facts) → HasFacts files owner facts → ⊥)
    (λ facts. HasFacts files owner facts.now)) c.unwrap-facts.ensures c.facts_of.ensures in
    ok_each (λ parts. AreEntitiesOf owner c.unwrap-facts.result.now name c.args.count parts.items)
    (λ parts. AreEntitiesAt files owner name c.args.count parts.items) c.parts_in.result c.parts_in.ensures
    (λ parts are. record { facts = c.unwrap-facts.result.now; known = has; are = are })
