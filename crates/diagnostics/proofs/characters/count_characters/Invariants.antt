use Rattle.std.proofs.Common.{◌≡◌, ◌+◌, ◌≤◌, length}
use Rattle.diagnostics.specs.Characters.{characters}
use Rattle.diagnostics.proofs.characters.count_characters.Given as goal

-- those so far and those to come
abbrev pub invariant-loop-others : goal.invariant-loop-others
invariant-loop-others l = record {
  same : l.count + length (characters l.rest) ≡ length (characters l.bytes);
  fits : l.count + length l.rest ≤ length l.bytes;
}

abbrev pub decreases-loop-others : goal.decreases-loop-others
decreases-loop-others l = length l.rest
