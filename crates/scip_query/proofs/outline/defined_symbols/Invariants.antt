use Rattle.std.proofs.Common.{◌≡◌, map, take}
use Rattle.std.specs.List.{flat_map}
use Rattle.scip_query.specs.CommandViews.{text_of}
use Rattle.scip_query.specs.Tables.Outlines.{defined_symbol}
use Rattle.scip_query.proofs.outline.defined_symbols.Given as goal

-- those of the occurrences so far
abbrev pub invariant-loop-occurrence : goal.invariant-loop-occurrence
invariant-loop-occurrence l =
    map text_of l.symbols.items ≡ flat_map defined_symbol (take l.occurrence-index l.document.occurrences)
