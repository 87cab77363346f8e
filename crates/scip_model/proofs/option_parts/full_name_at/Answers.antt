use Rattle.std.proofs.Common.{◌≡◌, ◌∙◌, ◌<◌, ℕ, List, Some, length, ap, subst, sym}
use Rattle.std.proofs.lemmas.Option.{same_Some, slice_get_within}
use Rattle.std.proofs.lemmas.Result.{IfOk-weaker}
use Rattle.std.specs.List.{slice_get}
use Rattle.proto_decl.specs.Facts.{Facts}
use Rattle.proto_decl.specs.declared.declaration.Declaration.{Declaration}
use Rattle.proto_visibility.specs.Files.{File}
use Rattle.proto_visibility.proofs.FileFactLemmas.{one_list_of_facts}
use Rattle.scip_model.specs.Makers.{IsDeclaredAt}
use Rattle.scip_model.proofs.NamedLemmas.{some_facts, given_facts, facts_there, is_within}
use Rattle.scip_model.proofs.option_parts.full_name_at.Goals as goal

pub facts_of-requires : goal.facts_of-requires
facts_of-requires c =
    subst (λ (files : List File). c.args.place.file < length files) (sym c.linker.ensures.files)
    (slice_get_within c.args.maker.now.package.now.files c.args.place.file c.requires.2.has_facts.file
    c.requires.2.has_facts.numbered)

pub unwrap-facts-requires : goal.unwrap-facts-requires
unwrap-facts-requires c =
    let files = c.args.maker.now.package.now.files in
    some_facts files c.args.place.file c.requires.0 c.facts_of.result c.requires.2.has_facts
    (facts_there files c.linker.result.now c.args.place.file c.facts_of.result c.linker.ensures.files
    c.facts_of.ensures)

pub declaration_of-declaration-requires : goal.declaration_of-declaration-requires
declaration_of-declaration-requires c =
    let files = c.args.maker.now.package.now.files in
    let file = c.args.place.file in
    let has = given_facts files file c.facts_of.result c.unwrap-facts.result c.unwrap-facts.ensures
    (facts_there files c.linker.result.now file c.facts_of.result c.linker.ensures.files c.facts_of.ensures) in
    is_within files file c.args.place.index c.unwrap-facts.result.now c.requires.0 c.requires.1 has c.requires.2

pub returns : goal.returns
returns c =
    let files = c.args.maker.now.package.now.files in
    let file = c.args.place.file in
    let facts = c.unwrap-facts.result.now in
    let declared = c.declaration_of-declaration.result.now in
    let has = given_facts files file c.facts_of.result c.unwrap-facts.result c.unwrap-facts.ensures
    (facts_there files c.linker.result.now file c.facts_of.result c.linker.ensures.files c.facts_of.ensures) in
    IfOk-weaker c.to_text.result (λ (text : List ℕ). text ≡ c.full_name.result)
    (λ (name : List ℕ). (others : Facts) (other : Declaration)
    → IsDeclaredAt c.args.maker.now c.args.place others other → name ≡ other.full_name)
    (λ text is others other its.
    let same : facts ≡ others = one_list_of_facts files file facts others has its.has_facts in
    let one : declared ≡ other =
    same_Some declared other (sym (subst (λ (f : Facts). slice_get f.declarations c.args.place.index
    ≡ Some declared) same c.declaration_of-declaration.ensures) ∙ its.numbered) in
    is ∙ (c.full_name.ensures ∙ ap (λ (d : Declaration). d.full_name) one))
    c.to_text.ensures
