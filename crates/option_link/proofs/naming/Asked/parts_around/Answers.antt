use Rattle.std.proofs.Common.{◌<◌, List, length, sym, subst}
use Rattle.std.specs.List.{Contains}
use Rattle.std.proofs.lemmas.Option.{slice_get_within}
use Rattle.proto_decl.specs.Facts.{Facts}
use Rattle.proto_visibility.specs.Files.{File, HasFacts}
use Rattle.proto_visibility.proofs.FileFactLemmas.{one_list_of_facts}
use Rattle.option_link.specs.Found.{AreOuterEntities, AreOuterEntitiesAt}
use Rattle.option_link.proofs.LoopLemmas.{ok_as}
use Rattle.option_link.proofs.naming.Asked.parts_around.Goals as goal

pub facts_of-requires : goal.facts_of-requires
facts_of-requires c =
    let known = c.requires.declared.known in
    subst (λ (files : List File). c.args.file < length files) (sym c.linker.ensures)
    (slice_get_within c.args.self.files.names.now c.args.file known.file known.numbered)

pub outer_entities-requires-clause-has : goal.outer_entities-requires-clause-has
outer_entities-requires-clause-has c =
    subst (λ (files : List File). HasFacts files c.args.file c.in-Some.facts.now) c.linker.ensures c.in-Some.ensures

pub outer_entities-requires-clause-declared : goal.outer_entities-requires-clause-declared
outer_entities-requires-clause-declared c =
    let its = c.requires.declared in
    let known = subst (λ (files : List File). HasFacts files c.args.file c.in-Some.facts.now) c.linker.ensures
    c.in-Some.ensures in (
      its.declaration,
      subst (λ (facts : Facts). Contains facts.declarations its.declaration)
          (one_list_of_facts c.args.self.files.names.now c.args.file its.facts c.in-Some.facts.now its.known known)
          its.listed,
      its.named,
    )

pub returns-in-Some : goal.returns-in-Some
returns-in-Some c =
    let files = c.args.self.files.names.now in
    let file = c.args.file in
    let facts = c.in-Some.facts.now in
    let name = c.args.name.now in
    let known = subst (λ (fs : List File). HasFacts fs file facts) c.linker.ensures c.in-Some.ensures in
    ok_as c.outer_entities.result (λ parts. AreOuterEntities file facts name c.args.count parts.items)
    (λ parts. AreOuterEntitiesAt files file name c.args.count parts.items)
    (λ parts are. record { facts = facts; known = known; are = are }) c.outer_entities.ensures

pub returns-in-None : goal.returns-in-None
returns-in-None c =
    let declared = c.requires.declared in
    absurd ((subst (λ (files : List File). (facts : Facts) → HasFacts files c.args.file facts → ⊥) c.linker.ensures
    c.in-None.ensures) declared.facts declared.known)
