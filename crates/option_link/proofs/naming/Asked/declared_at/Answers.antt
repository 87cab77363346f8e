use Rattle.std.proofs.Common.{◌<◌, List, length, sym, subst}
use Rattle.proto_visibility.specs.Files.{File, HasFacts}
use Rattle.option_link.specs.Tables.{KeysRise, name_start}
use Rattle.option_link.proofs.DefaultLemmas.{names_rise}
use Rattle.option_link.proofs.GivingLemmas.{declared_in, declared_nowhere}
use Rattle.proto_decl.specs.Facts.{Facts}
use Rattle.option_link.proofs.naming.Asked.declared_at.Goals as goal

pub facts_of-requires : goal.facts_of-requires
facts_of-requires c = subst (λ (files : List File). c.args.self.file < length files) (sym c.linker.ensures) c.requires

pub index_among-index-requires : goal.index_among-index-requires
index_among-index-requires c =
    let facts = c.in-Some.facts.now in
    let has = subst (λ (fs : List File). HasFacts fs c.args.self.file facts) c.linker.ensures c.in-Some.ensures in
    subst (KeysRise name_start) (sym c.declarations.ensures) (names_rise facts.declarations
    (c.facts_in_order.ensures.names facts (c.linked.ensures.origins c.args.self.file facts has)))

pub returns-in-Some : goal.returns-in-Some
returns-in-Some c =
    let facts = c.in-Some.facts.now in
    let has = subst (λ (fs : List File). HasFacts fs c.args.self.file facts) c.linker.ensures c.in-Some.ensures in
    declared_in c.args.self.files.names.now c.args.self.file facts c.declarations.result.now c.args.name
    c.index_among-index.result has c.declarations.ensures c.index_among-index.ensures c.in_file.result
    c.in_file.ensures

pub returns-in-None : goal.returns-in-None
returns-in-None c =
    declared_nowhere c.args.self.files.names.now c.args.self.file c.args.name
    (subst (λ (fs : List File). (facts : Facts) → HasFacts fs c.args.self.file facts → ⊥) c.linker.ensures
    c.in-None.ensures)
