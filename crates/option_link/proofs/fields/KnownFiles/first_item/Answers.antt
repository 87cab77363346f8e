use Rattle.std.proofs.Common.{◌<◌, List, length, sym, subst}
use Rattle.proto_visibility.specs.Files.{File, HasFacts}
use Rattle.option_link.specs.Fields.{IsFirstItem, IsItem}
use Rattle.option_link.specs.declared.place.DeclaredPlace.{DeclaredPlace}
use Rattle.option_link.proofs.ItemLemmas.{item_within}
use Rattle.option_link.proofs.LoopLemmas.{found_as}
use Rattle.option_link.proofs.fields.KnownFiles.first_item.Goals as goal

pub facts_of-requires : goal.facts_of-requires
facts_of-requires c =
    subst (λ (files : List File). c.args.message.file < length files) (sym c.linker.ensures) c.requires

pub returns-in-Some : goal.returns-in-Some
returns-in-Some c =
    let self = c.args.self in
    let files = self.names.now in
    let known = self.known.now in
    let set = c.args.set in
    let message = c.args.message in
    let facts = c.in-Some.facts.now in
    let has = subst (λ (fs : List File). HasFacts fs message.file facts) c.linker.ensures c.in-Some.ensures in
    found_as c.first_among.result
    ((field : DeclaredPlace) → IsItem files known set message field → field.index < length c.declarations.result.now
    → ⊥)
    ((field : DeclaredPlace) → IsFirstItem files known set message field → ⊥)
    (IsFirstItem files known set message) (IsFirstItem files known set message)
    (λ none field x. none field x.is (item_within files known set message field x.is facts has c.declarations.result.now
    c.declarations.ensures))
    (λ field is. is) c.first_among.ensures

pub returns-in-None : goal.returns-in-None
returns-in-None c = λ field x.
    c.in-None.ensures x.is.member.of_message.stands.facts
    (subst (λ (fs : List File). HasFacts fs c.args.message.file x.is.member.of_message.stands.facts)
    (sym c.linker.ensures) x.is.member.of_message.stands.known)
