use Rattle.std.proofs.Common.{◌∙◌, ◌<◌, List, length, ap, sym, subst}
use Rattle.std.proofs.lemmas.Option.{slice_get_within}
use Rattle.proto_visibility.proofs.FileFactLemmas.{one_list_of_facts as same_facts}
use Rattle.proto_visibility.specs.Files.{File}
use Rattle.proto_decl.specs.Facts.{Facts}
use Rattle.scip_model.specs.Tables.Plans.{declaration_number}
use Rattle.scip_model.proofs.NamedLemmas.{some_facts, given_facts, facts_there}
use Rattle.scip_model.proofs.use_occurrences.own_number.Goals as goal

pub facts_of-requires : goal.facts_of-requires
facts_of-requires c =
    subst (λ (files : List File). c.args.maker.now.source < length files) (sym c.linker.ensures.files)
    (slice_get_within c.args.maker.now.package.now.files c.args.maker.now.source c.requires.2.has_facts.file
    c.requires.2.has_facts.numbered)

pub unwrap-facts-requires : goal.unwrap-facts-requires
unwrap-facts-requires c =
    let files = c.args.maker.now.package.now.files in
    let source = c.args.maker.now.source in
    some_facts files source c.requires.0 c.facts_of.result c.requires.2.has_facts
    (facts_there files c.linker.result.now source c.facts_of.result c.linker.ensures.files c.facts_of.ensures)

pub returns : goal.returns
returns c = λ facts known.
    let files = c.args.maker.now.package.now.files in
    let source = c.args.maker.now.source in
    let has = given_facts files source c.facts_of.result c.unwrap-facts.result c.unwrap-facts.ensures
    (facts_there files c.linker.result.now source c.facts_of.result c.linker.ensures.files c.facts_of.ensures) in
    c.in_ok-number.ensures
    ∙ ap (λ (its : Facts). declaration_number its c.args.index)
    (same_facts files source c.unwrap-facts.result.now facts has known)
