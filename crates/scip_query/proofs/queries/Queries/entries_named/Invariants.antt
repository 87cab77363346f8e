use Rattle.std.proofs.Common.{◌≡◌, map, take}
use Rattle.std.specs.List.{flat_map}
use Rattle.scip_records.specs.declared.records.Document.{Document}
use Rattle.scip_query.specs.MoreViews.{entry_view}
use Rattle.scip_query.specs.Named.{is_named}
use Rattle.scip_query.specs.Tables.Named.{kept_if}
use Rattle.scip_query.proofs.queries.Queries.entries_named.Given as goal

-- those of the documents so far
abbrev pub invariant-loop-document : goal.invariant-loop-document
invariant-loop-document l =
    map entry_view l.entries.items
    ≡ flat_map (λ (d : Document). flat_map (kept_if (is_named l.text)) d.symbols)
    (take l.document-index l.document-items)
