use Rattle.std.proofs.Common.{arith}
use Rattle.scip_query.specs.Tables.{symbol_listed}
use Rattle.scip_query.specs.Tables.Groups.{gathered_at}
use Rattle.scip_query.specs.declared.place.Place.{Place}
use Rattle.scip_query.proofs.GroupLemmas.{none_gathered, gathered_more, gathered_all}
use Rattle.scip_query.proofs.tables.gathered.Goals as goal

pub loop-place-init : goal.loop-place-init
loop-place-init c = none_gathered (symbol_listed c.args.documents.now) _ c.new-groups.ensures.empty

pub loop-place-preserved : goal.loop-place-preserved
loop-place-preserved c =
    let outside : Place = record { document = 0; occurrence = 0 } in
    gathered_more (symbol_listed c.args.documents.now) (gathered_at c.loop-place.groups) _ c.args.places.now
    c.loop-place.place-index outside c.symbol_listed.result.now c.loop-place-test.true c.symbol_listed.ensures c.loop-place.invariant
    c.in_ok-add_place.ensures

pub returns : goal.returns
returns c =
    gathered_all (symbol_listed c.args.documents.now) (gathered_at c.loop-place.groups) c.args.places.now
    c.loop-place.place-index (omega arith) c.loop-place.invariant
