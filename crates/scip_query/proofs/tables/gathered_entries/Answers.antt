use Rattle.std.proofs.Common.{arith}
use Rattle.scip_query.specs.Tables.Searches.{entry_symbol_listed}
use Rattle.scip_query.specs.Tables.Groups.{gathered_at}
use Rattle.scip_query.specs.declared.place.EntryPlace.{EntryPlace}
use Rattle.scip_query.proofs.GroupLemmas.{none_gathered, gathered_more, gathered_all}
use Rattle.scip_query.proofs.tables.gathered_entries.Goals as goal

pub loop-place-init : goal.loop-place-init
loop-place-init c = none_gathered (entry_symbol_listed c.args.index.now) _ c.new-groups.ensures.empty

pub loop-place-preserved : goal.loop-place-preserved
loop-place-preserved c =
    let outside : EntryPlace = record { list = 0; entry = 0 } in
    gathered_more (entry_symbol_listed c.args.index.now) (gathered_at c.loop-place.groups) _ c.args.places.now
    c.loop-place.place-index outside c.entry_symbol_listed.result.now c.loop-place-test.true c.entry_symbol_listed.ensures c.loop-place.invariant
    c.in_ok-add_place.ensures

pub returns : goal.returns
returns c =
    gathered_all (entry_symbol_listed c.args.index.now) (gathered_at c.loop-place.groups) c.args.places.now
    c.loop-place.place-index (omega arith) c.loop-place.invariant
