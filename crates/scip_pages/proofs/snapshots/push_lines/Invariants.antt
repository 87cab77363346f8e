use Rattle.std.proofs.Common.{◌≡◌, ◌++◌, ℕ, List, map, drop}
use Rattle.std.specs.Borrow.{Bor}
use Rattle.std.specs.List.{flat_map, enumerate_from}
use Rattle.scip_query.specs.BySymbol.{entry_in}
use Rattle.scip_pages.specs.Snapshot.{line_text, text_of}
use Rattle.scip_pages.specs.Listed.{listed_on}
use Rattle.scip_pages.proofs.snapshots.push_lines.Given as goal

-- the lines so far, and those that are left
abbrev pub invariant-loop-number : goal.invariant-loop-number
invariant-loop-number l =
    l.text.items ++ flat_map
    (λ (x : ℕ × List ℕ). line_text l.shown.unit (entry_in l.shown.queries.now l.shown.number)
    (listed_on l.table x.0) x.1)
    (enumerate_from l.number (map (λ (t : Bor (List ℕ)). t.now) (drop l.number l.lines)))
    ≡ l.fn.text.items ++ text_of l.shown.unit (entry_in l.shown.queries.now l.shown.number) (listed_on l.table)
    (map (λ (t : Bor (List ℕ)). t.now) l.lines)
