use Rattle.std.proofs.Common.{◌≡◌, ◌++◌, take}
use Rattle.std.specs.Borrow.{Bor}
use Rattle.std.specs.List.{flat_map}
use Rattle.std.specs.String.{string_bytes}
use Rattle.scip_records.specs.declared.records.SymbolInformation.{SymbolInformation}
use Rattle.scip_query.specs.AnswerText.{symbol_line}
use Rattle.scip_query.proofs.answer.push_symbols.Given as goal

-- the symbols so far
abbrev pub invariant-loop-entry : goal.invariant-loop-entry
invariant-loop-entry l =
    string_bytes l.text ≡ string_bytes l.fn.text
    ++ flat_map (λ (entry : Bor SymbolInformation). symbol_line entry.now) (take l.entry-index l.entries)
