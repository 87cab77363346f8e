use Rattle.std.proofs.Common.{◌≡◌, ℕ, ◌<◌, length, take}
use Rattle.std.specs.List.{filter}
use Rattle.scip_pages.specs.CodeText.{begins_on}
use Rattle.scip_pages.specs.ListedNumbers.{listed_on}
use Rattle.scip_pages.proofs.code_table.by_line.Given as goal

-- the occurrences so far
abbrev pub invariant-loop-number : goal.invariant-loop-number
invariant-loop-number l = record {
  count : length l.table.items ≡ length l.lines;
  listed : (line : ℕ) → line < length l.lines
      → listed_on l.table.items line ≡ filter (begins_on l.occurrences line) (take l.number-index l.listed);
}
