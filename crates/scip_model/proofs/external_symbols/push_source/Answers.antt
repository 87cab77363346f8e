use Rattle.std.proofs.Common.{List, length, subst}
use Rattle.std.proofs.lemmas.Option.{MatchOption-at_some}
use Rattle.std.proofs.lemmas.Result.{on_ok_weaker}
use Rattle.proto_decl.specs.Facts.{Facts}
use Rattle.proto_decl.specs.declared.uses.Use.{Use}
use Rattle.proto_visibility.specs.Files.{HasFacts}
use Rattle.proto_link.proofs.TargetLemmas.{some_facts}
use Rattle.scip_model.specs.Tables.ExternalLists.{Adds, FromFront, IsOfUse}
use Rattle.scip_model.proofs.ConditionLinkedLemmas.{source-facts, source-at}
use Rattle.scip_model.proofs.ExternalSymbolLemmas.{of-source}
use Rattle.scip_model.proofs.ExternalSymbolSeenLemmas.{adds-none}
use Rattle.scip_model.proofs.external_symbols.push_source.Goals as goal

pub unwrap-facts-requires : goal.unwrap-facts-requires
unwrap-facts-requires c =
    let files = c.args.linker.now in
    let source = c.args.source in
    let is = source-at files source c.is_source.result c.is_source.ensures c.if-not-is_source.false in
    let facts = source-facts files source c.linked.ensures.clear.read is in
    some_facts (λ facts. HasFacts files source facts.now) files source facts.0 c.facts_of.result facts.1
    c.facts_of.ensures

pub returns-then-not-may_see_included : goal.returns-then-not-may_see_included
returns-then-not-may_see_included c =
    adds-none c.args.linker.now c.args.choices.now c.args.source
    (c.may_see_included.ensures c.if-not-may_see_included.true) c.args.named.now.items

pub returns : goal.returns
returns c =
    let files = c.args.linker.now in
    let chosen = c.args.choices.now in
    let source = c.args.source in
    let is = source-at files source c.is_source.result c.is_source.ensures c.if-not-is_source.false in
    let facts = c.unwrap-facts.result.now in
    let known = MatchOption-at_some ((other : Facts) → HasFacts files source other → ⊥)
    (λ facts. HasFacts files source facts.now) c.unwrap-facts.result c.unwrap-facts.ensures c.facts_of.ensures in
    on_ok_weaker c.push_uses.result
    (λ adds. of-source files chosen source facts c.args.named.now.items c.push_uses.new.named.items is known
    (subst (λ (uses : List Use). Adds
    (FromFront (IsOfUse files chosen source) uses (length uses)) c.args.named.now.items c.push_uses.new.named.items)
    c.uses.ensures adds))
    c.push_uses.ensures
