use Rattle.std.proofs.Common.{◌≡◌, ℕ, ◌<◌, length, take}
use Rattle.std.specs.List.{filter}
use Rattle.scip_pages.specs.Snapshot.{starts_on}
use Rattle.scip_pages.specs.Listed.{listed_on}
use Rattle.scip_pages.proofs.lines.by_line.Given as goal

-- the occurrences so far
abbrev pub invariant-loop-occurrence : goal.invariant-loop-occurrence
invariant-loop-occurrence l = record {
  count : length l.table.items ≡ l.count;
  listed : (number : ℕ) → number < l.count
      → listed_on l.table.items number ≡ filter (starts_on number) (take l.occurrence-index l.occurrences);
}
