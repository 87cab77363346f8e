use Rattle.std.proofs.Common.{arith}
use Rattle.proto_decl.proofs.LayoutAboveLemmas.{none_behind, above_by_start, above_by_later, none_before}
use Rattle.proto_decl.proofs.layout.comments_above.Goals as goal

pub loop-above-init : goal.loop-above-init
loop-above-init c = record {
  within = c.requires.comments_within;
  behind = none_behind c.args.lexed.now c.args.offset c.comments-comments.ensures.in_order
      c.args.begun.comments c.requires.comments;
}

pub returns-then-is_on_later_line-clause-parted : goal.returns-then-is_on_later_line-clause-parted
returns-then-is_on_later_line-clause-parted c =
    above_by_later c.args.lexed.now c.args.offset c.comments-comments.ensures.in_order c.loop-above.above
    c.loop-above-test.true c.loop-above.invariant.within c.loop-above.invariant.behind c.comments-comments.result.now
    c.comments-comments.ensures.value _ c.is_on_later_line.result c.is_on_later_line.ensures
    c.if-is_on_later_line.true

pub loop-above-preserved : goal.loop-above-preserved
loop-above-preserved c = record {
  within = omega (arith, c.loop-above.invariant.within);
  behind = none_before c.args.lexed.now c.args.offset c.comments-comments.ensures.in_order c.loop-above.above
      c.loop-above-test.true c.loop-above.invariant.within c.loop-above.invariant.behind c.comments-comments.result.now
      c.comments-comments.ensures.value _ c.is_on_later_line.result c.is_on_later_line.ensures
      c.if-is_on_later_line.false;
}

pub returns-clause-parted : goal.returns-clause-parted
returns-clause-parted c =
    above_by_start c.args.lexed.now c.args.offset c.comments-comments.ensures.in_order c.loop-above.above
    c.loop-above-test.false c.loop-above.invariant.behind
