use Rattle.std.proofs.Common.{◌≡◌, ◌++◌, length}
use Rattle.globs.specs.Pieces.{spelled}
use Rattle.globs.proofs.spelling.pieces_of.Given as goal

-- the pieces so far, and those that the rest spells
abbrev pub invariant-loop-rest : goal.invariant-loop-rest
invariant-loop-rest l = l.pieces.items ++ spelled l.rest ≡ spelled l.pattern

abbrev pub decreases-loop-rest : goal.decreases-loop-rest
decreases-loop-rest l = length l.rest
