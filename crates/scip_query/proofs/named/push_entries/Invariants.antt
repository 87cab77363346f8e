use Rattle.std.proofs.Common.{◌≡◌, ◌++◌, map, take}
use Rattle.std.specs.List.{flat_map}
use Rattle.scip_query.specs.MoreViews.{entry_view}
use Rattle.scip_query.specs.Named.{is_named}
use Rattle.scip_query.specs.Tables.Named.{kept_if}
use Rattle.scip_query.proofs.named.push_entries.Given as goal

-- those so far
abbrev pub invariant-loop-entry : goal.invariant-loop-entry
invariant-loop-entry l =
    map entry_view l.entries.items
    ≡ map entry_view l.fn.entries.items ++ flat_map (kept_if (is_named l.text)) (take l.entry-index l.all)
