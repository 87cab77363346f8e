use Rattle.std.proofs.Common.{take}
use Rattle.std.specs.List.{AllZip}
use Rattle.scip_model.specs.Tables.ExternalLists.{IsEntryOf}
use Rattle.scip_model.proofs.external_symbols.external_entries.Given as goal

-- one for each so far
abbrev pub invariant-loop-pair : goal.invariant-loop-pair
invariant-loop-pair l = AllZip (IsEntryOf l.named.files l.choices l.named.ids) (take l.pair-index l.pairs) l.entries.items
