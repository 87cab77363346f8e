use Rattle.std.proofs.Common.{◌≡◌, ◌∙◌, List, Some, length, map, refl, subst, ap, arith}
use Rattle.std.specs.List.{slice_get}
use Rattle.std.proofs.lemmas.Option.{slice_get_read}
use Rattle.proto_decl.specs.declared.declaration.Declaration.{Declaration}
use Rattle.scip_model.specs.Makers.{source_home}
use Rattle.scip_model.specs.Tables.Listing.{each_from, at_declaration}
use Rattle.scip_model.specs.Tables.Plans.{around_in, occurrence_of}
use Rattle.scip_model.proofs.ListingLemmas.{each_added, each_done}
use Rattle.scip_model.proofs.occurrences.declaration_occurrences.Goals as goal

pub add_declaration-requires-clause-there : goal.add_declaration-requires-clause-there
add_declaration-requires-clause-there c =
    let items = c.declarations-declaration-items.result.now in
    let index = c.loop-index.index in
    let declaration = c.declaration-item.result in
    subst (λ (ds : List Declaration). slice_get ds index ≡ Some declaration) c.declarations-declaration-items.ensures
    (slice_get_read items (length items) index declaration refl c.loop-index-test.true c.declaration-item.is)

pub loop-index-preserved : goal.loop-index-preserved
loop-index-preserved c = λ run later more.
    let facts = c.args.facts.now in
    let maker = c.args.maker.now in
    let items = c.declarations-declaration-items.result.now in
    let index = c.loop-index.index in
    let declaration = c.declaration-item.result in
    let gives = at_declaration (source_home maker) maker.encoding maker.text.now maker.choices.now maker.source facts in
    let there : slice_get items index ≡ Some declaration =
    slice_get_read items (length items) index declaration refl c.loop-index-test.true c.declaration-item.is in
    let planned = map (occurrence_of (around_in maker.encoding maker.text.now facts) later) in
    each_added gives items index declaration (planned c.loop-index.list.items)
    (planned c.add_declaration.new.list.items) (each_from gives 0 items) there
    (c.in_ok-add_declaration.ensures run later more) (c.loop-index.invariant run later more)

pub returns : goal.returns
returns c = λ run later more.
    let maker = c.args.maker.now in
    let facts = c.args.facts.now in
    let home = source_home maker in
    let gives = at_declaration home maker.encoding maker.text.now maker.choices.now maker.source facts in
    let items = c.declarations-declaration-items.result.now in
    let planned = map (occurrence_of (around_in maker.encoding maker.text.now facts) later) in
    each_done gives items c.loop-index.index (planned c.loop-index.list.items)
    (each_from gives 0 items) (omega (arith, c.loop-index-test.false)) (c.loop-index.invariant run later more)
    ∙ ap (λ (declarations : List Declaration). each_from gives 0 declarations) c.declarations-declaration-items.ensures
