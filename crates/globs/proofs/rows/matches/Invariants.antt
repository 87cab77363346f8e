use Rattle.std.proofs.Common.{take}
use Rattle.globs.specs.Rows.{AreRow}
use Rattle.globs.proofs.rows.matches.Given as goal

-- the row of the pieces so far
abbrev pub invariant-loop-piece : goal.invariant-loop-piece
invariant-loop-piece l = AreRow (take l.piece-index l.pieces) l.text l.row.items
