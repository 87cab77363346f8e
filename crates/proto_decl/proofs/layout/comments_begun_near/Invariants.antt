use Rattle.std.proofs.Common.{◌≤◌, ◌<◌, ◌-◌, length}
use Rattle.std.specs.List.{AllWithin}
use Rattle.proto_lex.specs.declared.token.Comment.{Comment}
use Rattle.proto_decl.proofs.layout.comments_begun_near.Given as goal

-- so many begin before the offset
abbrev pub invariant-loop-count : goal.invariant-loop-count
invariant-loop-count l = record {
  within : l.count ≤ length l.comments;
  begin : AllWithin (λ (x : Comment). x.span.start < l.offset) l.comments 0 l.count;
}

abbrev pub decreases-loop-count : goal.decreases-loop-count
decreases-loop-count l = length l.comments - l.count
