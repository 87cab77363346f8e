use Rattle.std.proofs.Common.{◌≤◌, length}
use Rattle.proto_decl.proofs.LayoutAboveLemmas.{NoneAbove}
use Rattle.proto_decl.proofs.layout.comments_above.Given as goal

-- no comment from here on ends on a line before
abbrev pub invariant-loop-above : goal.invariant-loop-above
invariant-loop-above l = record {
  within : l.above ≤ length l.lexed.comments;
  behind : NoneAbove l.lexed l.offset l.above;
}

abbrev pub decreases-loop-above : goal.decreases-loop-above
decreases-loop-above l = l.above
