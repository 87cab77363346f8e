use Rattle.std.proofs.Common.{◌≡◌}
use Rattle.diagnostics.specs.Gaps.{behind_gap, behind_pieces}
use Rattle.diagnostics.proofs.gaps.behind_gap.Given as goal

-- what is left is behind the same gap
abbrev pub invariant-loop-left : goal.invariant-loop-left
invariant-loop-left l = behind_pieces l.left l.rest ≡ behind_gap l.bytes

abbrev pub decreases-loop-left : goal.decreases-loop-left
decreases-loop-left l = l.left
