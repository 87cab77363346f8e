use Rattle.std.proofs.Common.{◌≡◌, ◌+◌, length}
use Rattle.diagnostics.specs.Gaps.{comment_len}
use Rattle.diagnostics.proofs.gaps.comment_len.Given as goal

-- those so far and those to come
abbrev pub invariant-loop-rest : goal.invariant-loop-rest
invariant-loop-rest l = record {
  same : l.count + comment_len l.rest ≡ comment_len l.inside;
  fits : l.count + length l.rest ≡ length l.inside;
}

abbrev pub decreases-loop-rest : goal.decreases-loop-rest
decreases-loop-rest l = length l.rest
