use Rattle.std.proofs.Common.{arith}
use Rattle.proto_lex.specs.declared.token.Comment.{Comment}
use Rattle.proto_decl.proofs.LayoutNearLemmas.{parted_by_next, one_more, parted_at_end}
use Rattle.proto_decl.proofs.layout.comments_begun_near.Goals as goal

pub returns-then-offset-comments : goal.returns-then-offset-comments
returns-then-offset-comments c = (
  omega arith,
  parted_by_next (λ (x : Comment). x.span) c.args.offset c.loop-count.count c.args.comments.now c.requires _
      c.loop-count-test.true c.loop-count.invariant.begin c.if-offset-comments.true,
)

pub loop-count-preserved : goal.loop-count-preserved
loop-count-preserved c = record {
  within = omega arith;
  begin = one_more (λ (x : Comment). x.span) c.args.offset c.loop-count.count c.args.comments.now c.requires _
      (omega arith) c.if-offset-comments.false;
}

pub returns : goal.returns
returns c = (
  c.loop-count.invariant.within,
  parted_at_end (λ (x : Comment). x.span) c.args.offset c.loop-count.count c.args.comments.now c.requires
      (omega arith) c.loop-count.invariant.begin,
)
