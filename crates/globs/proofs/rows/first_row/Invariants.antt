use Rattle.globs.specs.Rows.{IsFront}
use Rattle.globs.proofs.rows.first_row.Given as goal
use Rattle.std.proofs.Common.{[]}

-- those so far
abbrev pub invariant-loop : goal.invariant-loop
invariant-loop l = IsFront [] l.text l.counter l.row.items
