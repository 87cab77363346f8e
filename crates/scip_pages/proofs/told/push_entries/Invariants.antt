use Rattle.std.proofs.Common.{◌≡◌, ◌++◌, take}
use Rattle.std.specs.Borrow.{Bor}
use Rattle.std.specs.List.{flat_map}
use Rattle.scip_records.specs.declared.records.SymbolInformation.{SymbolInformation}
use Rattle.scip_pages.specs.Told.{entry_told}
use Rattle.scip_pages.proofs.told.push_entries.Given as goal

-- those so far
abbrev pub invariant-loop-entry : goal.invariant-loop-entry
invariant-loop-entry l =
    l.text.items ≡ l.fn.text.items
    ++ flat_map (λ (entry : Bor SymbolInformation). entry_told entry.now) (take l.entry-index l.entries)
