use Rattle.std.proofs.Common.{arith}
use Rattle.scip_query.proofs.TableLemmas.{entries_more}
use Rattle.scip_query.proofs.tables.entry_places.Goals as goal

pub loop-list-preserved : goal.loop-list-preserved
loop-list-preserved c = (
  omega arith,
  entries_more c.loop-list.list c.args.index.now.external_symbols c.as_slice-documents.result.now
      c.index-documents-list.result c.as_slice-entries.result.now c.loop-list.places.items
      c.push_entry_places.new.places.items (omega arith) c.index-documents-list.is c.as_slice-entries.ensures
      c.in_ok-push_entry_places.ensures c.loop-list.invariant.1,
)
