use Rattle.std.proofs.Common.{◌≡◌, ◌++◌, ℕ, List, map, take}
use Rattle.std.specs.Borrow.{Bor}
use Rattle.std.specs.List.{flat_map}
use Rattle.scip_pages.specs.CodeText.{line_by}
use Rattle.scip_pages.specs.ListedNumbers.{listed_on}
use Rattle.scip_pages.proofs.code_table.push_all_numbered.Given as goal

-- the lines so far
abbrev pub invariant-loop-number : goal.invariant-loop-number
invariant-loop-number l =
    l.page.items ≡ l.fn.page.items
    ++ flat_map (line_by l.code.lines.now.unit l.code.occurrences.now l.code.links.now
    (map (λ (t : Bor (List ℕ)). t.now) l.code.lines.now.lines) (listed_on l.table)) (take l.number-index l.numbers)
