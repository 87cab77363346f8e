use Rattle.globs.proofs.RowLemmas.{IsNext}
use Rattle.globs.proofs.rows.next_row.Given as goal

-- those so far
abbrev pub invariant-loop-at : goal.invariant-loop-at
invariant-loop-at l = IsNext l.piece l.text l.row l.at l.all l.next.items
