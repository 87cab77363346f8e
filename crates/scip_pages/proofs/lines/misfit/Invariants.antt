use Rattle.std.proofs.Common.{◌≡◌, not, ℕ, List, map, drop}
use Rattle.std.specs.Borrow.{Bor}
use Rattle.std.specs.List.{position_from}
use Rattle.scip_records.specs.declared.records.Occurrence.{Occurrence}
use Rattle.scip_pages.specs.Snapshot.{fits, misfit}
use Rattle.scip_pages.proofs.lines.misfit.Given as goal

-- the occurrences so far fit
abbrev pub invariant-loop-number : goal.invariant-loop-number
invariant-loop-number l =
    position_from (λ (o : Occurrence). not (fits l.lines.unit (map (λ (t : Bor (List ℕ)). t.now) l.lines.lines) o))
    l.number (drop l.number l.occurrences)
    ≡ misfit l.lines.unit (map (λ (t : Bor (List ℕ)). t.now) l.lines.lines) l.occurrences
