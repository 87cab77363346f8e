use Rattle.std.proofs.Common.{◌<◌, List, length, IfOk, subst, sym}
use Rattle.std.proofs.lemmas.Result.{IfOk-weaker}
use Rattle.proto_visibility.specs.Files.{File}
use Rattle.scip_model.specs.Named.{Home, home_of_file}
use Rattle.scip_model.specs.Tables.ExternalLists.{IsEntryAt, IsEntryOf}
use Rattle.scip_model.proofs.NamedLemmas.{some_facts, given_facts, facts_there}
use Rattle.scip_model.proofs.ExternalSymbolEntryLemmas.{kept-entry, there-chosen, there-index, there-within}
use Rattle.scip_model.proofs.external_symbols.entry_of.Goals as goal

pub facts_of-requires : goal.facts_of-requires
facts_of-requires c =
    subst (λ (files : List File). c.args.pair.0 < length files) (sym c.linker.ensures.files)
    (there-within c.args.named.now.files c.args.choices.now c.args.pair c.requires.there)

pub unwrap-facts-requires : goal.unwrap-facts-requires
unwrap-facts-requires c =
    let files = c.args.named.now.files in
    let there = c.requires.there in
    some_facts files c.args.pair.0 there.facts c.facts_of.result there.has.has_facts
    (facts_there files c.linker.result.now c.args.pair.0 c.facts_of.result c.linker.ensures.files c.facts_of.ensures)

pub home_of-home-requires : goal.home_of-home-requires
home_of-home-requires c = there-within c.args.named.now.files c.args.choices.now c.args.pair c.requires.there

pub external_entry-requires-clause-within : goal.external_entry-requires-clause-within
external_entry-requires-clause-within c =
    let files = c.args.named.now.files in
    there-index files c.args.choices.now c.args.pair c.unwrap-facts.result.now c.requires.there
    (given_facts files c.args.pair.0 c.facts_of.result c.unwrap-facts.result c.unwrap-facts.ensures
    (facts_there files c.linker.result.now c.args.pair.0 c.facts_of.result c.linker.ensures.files c.facts_of.ensures))

pub external_entry-requires-clause-chosen : goal.external_entry-requires-clause-chosen
external_entry-requires-clause-chosen c =
    there-chosen c.args.named.now.files c.args.choices.now c.args.pair c.requires.choices c.requires.there

pub returns : goal.returns
returns c =
    let files = c.args.named.now.files in
    let chosen = c.args.choices.now in
    let ids = c.args.named.now.ids in
    let facts = c.unwrap-facts.result.now in
    let known = given_facts files c.args.pair.0 c.facts_of.result c.unwrap-facts.result c.unwrap-facts.ensures
    (facts_there files c.linker.result.now c.args.pair.0 c.facts_of.result c.linker.ensures.files c.facts_of.ensures) in
    let home = home_of_file files ids c.args.pair.0 in
    IfOk-weaker c.external_entry.result (IsEntryAt chosen home facts c.args.pair.0 c.args.pair.1)
    (IsEntryOf files chosen ids c.args.pair)
    (λ entry made. kept-entry files chosen ids c.args.pair facts entry c.requires.there known made)
    (subst (λ (h : Home). IfOk c.external_entry.result (IsEntryAt chosen h facts c.args.pair.0 c.args.pair.1))
    c.home_of-home.ensures c.external_entry.ensures)
