use Rattle.std.proofs.Common.{◌≡◌, drop}
use Rattle.diagnostics.specs.Characters.{characters}
use Rattle.diagnostics.proofs.characters.skip_characters.Given as goal

-- so many are left to skip
abbrev pub invariant-loop-left : goal.invariant-loop-left
invariant-loop-left l = drop l.left (characters l.rest) ≡ drop l.count (characters l.bytes)

abbrev pub decreases-loop-left : goal.decreases-loop-left
decreases-loop-left l = l.left
