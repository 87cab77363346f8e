use Rattle.std.proofs.Common.{◌≡◌, ◌++◌, map, take}
use Rattle.std.specs.Borrow.{Bor}
use Rattle.std.specs.List.{flat_map}
use Rattle.scip_records.specs.declared.records.Occurrence.{Occurrence}
use Rattle.scip_query.specs.BySymbol.{entry_in}
use Rattle.scip_pages.specs.Snapshot.{mark_in}
use Rattle.scip_pages.proofs.snapshots.push_marks.Given as goal

-- the occurrences so far
abbrev pub invariant-loop-occurrence : goal.invariant-loop-occurrence
invariant-loop-occurrence l =
    l.text.items ≡ l.fn.text.items
    ++ flat_map (mark_in l.shown.unit l.line (entry_in l.shown.queries.now l.shown.number))
    (map (λ (o : Bor Occurrence). o.now) (take l.occurrence-index l.occurrences))
