use Rattle.std.proofs.Common.{◌≡◌, ◌<◌, List, IfOk, length, subst, sym}
use Rattle.std.proofs.lemmas.Option.{slice_get_within}
use Rattle.proto_visibility.specs.Files.{File}
use Rattle.scip_model.specs.Named.{Home, home_of_file, text_of, declaration_in}
use Rattle.scip_model.specs.Tables.Listing.{declared_by}
use Rattle.scip_model.proofs.NamedLemmas.{some_facts, given_facts, facts_there, is_within, declared_is, if_named}
use Rattle.scip_model.proofs.use_occurrences.declared_text.Goals as goal
use Rattle.basics.proofs.FirstLemmas.{contained}

pub facts_of-requires : goal.facts_of-requires
facts_of-requires c =
    subst (λ (files : List File). c.args.file < length files) (sym c.linker.ensures.files)
    (slice_get_within c.args.maker.now.package.now.files c.args.file c.requires.2.has_facts.file
    c.requires.2.has_facts.numbered)

pub unwrap-facts-requires : goal.unwrap-facts-requires
unwrap-facts-requires c =
    let files = c.args.maker.now.package.now.files in
    some_facts files c.args.file c.requires.0 c.facts_of.result c.requires.2.has_facts
    (facts_there files c.linker.result.now c.args.file c.facts_of.result c.linker.ensures.files c.facts_of.ensures)

pub declaration_of-declaration-requires : goal.declaration_of-declaration-requires
declaration_of-declaration-requires c =
    let files = c.args.maker.now.package.now.files in
    let has = given_facts files c.args.file c.facts_of.result c.unwrap-facts.result c.unwrap-facts.ensures
    (facts_there files c.linker.result.now c.args.file c.facts_of.result c.linker.ensures.files c.facts_of.ensures) in
    is_within files c.args.file c.args.index c.unwrap-facts.result.now c.requires.0 c.requires.1 has c.requires.2

pub home_of-home-requires : goal.home_of-home-requires
home_of-home-requires c =
    slice_get_within c.args.maker.now.package.now.files c.args.file c.requires.2.has_facts.file
    c.requires.2.has_facts.numbered

pub declaration_text-requires : goal.declaration_text-requires
declaration_text-requires c =
    contained c.unwrap-facts.result.now.declarations c.args.index c.declaration_of-declaration.result.now
    c.declaration_of-declaration.ensures

pub returns : goal.returns
returns c =
    let files = c.args.maker.now.package.now.files in
    let ids = c.args.maker.now.package.now.ids in
    let facts = c.unwrap-facts.result.now in
    let declared = c.declaration_of-declaration.result.now in
    let has = given_facts files c.args.file c.facts_of.result c.unwrap-facts.result c.unwrap-facts.ensures
    (facts_there files c.linker.result.now c.args.file c.facts_of.result c.linker.ensures.files c.facts_of.ensures) in
    let home = home_of_file files ids c.args.file in
    let named = declared_by files ids c.args.file c.args.index in
    if_named (text_of home.id) named (declaration_in home facts declared) c.declaration_text.result
    (declared_is files ids c.args.file c.args.index facts declared has c.declaration_of-declaration.ensures)
    (subst (λ (h : Home). IfOk c.declaration_text.result (λ text. text ≡ text_of h.id (declaration_in h facts declared)))
    c.home_of-home.ensures c.declaration_text.ensures)
