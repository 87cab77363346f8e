use Rattle.std.proofs.Common.{arith}
use Rattle.scip_query.proofs.TableLemmas.{places_more}
use Rattle.scip_query.proofs.tables.occurrence_places.Goals as goal

pub loop-number-preserved : goal.loop-number-preserved
loop-number-preserved c = (
  omega arith,
  places_more c.loop-number.number c.args.documents.now c.index-documents-number.result
      c.loop-number.places.items c.push_places.new.places.items (omega arith) c.index-documents-number.is
      c.in_ok-push_places.ensures c.loop-number.invariant.1,
)
