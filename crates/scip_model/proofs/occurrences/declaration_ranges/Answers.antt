use Rattle.std.proofs.Common.{Option, List, subst}
use Rattle.std.specs.List.{All}
use Rattle.proto_decl.specs.Facts.{extents_of}
use Rattle.proto_decl.specs.Laws.{IsWhole}
use Rattle.proto_decl.specs.declared.detail.Detail.{Detail}
use Rattle.scip_model.proofs.ConditionLemmas.{stand_there}
use Rattle.scip_model.proofs.occurrences.declaration_ranges.Goals as goal

pub ranges_of-requires : goal.ranges_of-requires
ranges_of-requires c =
    let text = c.args.maker.now.text.now in
    let facts = c.args.facts.now in
    subst (λ (details : Option (List Detail)). All (IsWhole text) (extents_of details)) c.in-Some.ensures
    (stand_there text facts c.requires c.facts_stand_in_text.ensures).extents
