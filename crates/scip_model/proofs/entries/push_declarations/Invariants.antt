use Rattle.std.proofs.Common.{◌≡◌, ◌++◌, ℕ, map, take}
use Rattle.scip_records.specs.declared.records.SymbolInformation.{SymbolInformation}
use Rattle.scip_model.specs.Named.{Home}
use Rattle.scip_model.specs.Tables.EntryLists.{kept_entries, choices_for, AreNumbered}
use Rattle.scip_model.proofs.entries.push_declarations.Given as goal

-- those so far
abbrev pub invariant-loop-index : goal.invariant-loop-index
invariant-loop-index l =
    (home : Home) (entry : ℕ → SymbolInformation)
    → AreNumbered home l.facts (choices_for l.maker.choices.now l.maker.source) entry
    → map entry l.numbers.items ≡ map entry l.fn.numbers.items
    ++ kept_entries home l.facts 0 (take l.index l.facts.declarations)
    (choices_for l.maker.choices.now l.maker.source)
