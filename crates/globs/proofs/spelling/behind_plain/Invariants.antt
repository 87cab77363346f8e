use Rattle.std.proofs.Common.{◌↔◌, length}
use Rattle.globs.specs.Pieces.{IsSpelled}
use Rattle.globs.proofs.spelling.behind_plain.Given as goal

-- what was passed says nothing more
abbrev pub invariant-bytes : goal.invariant-bytes
invariant-bytes l = IsSpelled l.pattern l.text ↔ IsSpelled l.rest l.left

abbrev pub decreases-bytes : goal.decreases-bytes
decreases-bytes l = length l.rest
