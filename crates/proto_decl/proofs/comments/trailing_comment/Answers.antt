use Rattle.std.proofs.Common.{ap, length, arith}
use Rattle.proto_decl.proofs.CommentTrailingLemmas.{refuted, confirmed}
use Rattle.proto_decl.proofs.comments.trailing_comment.Goals as goal

pub follows-requires : goal.follows-requires
follows-requires c =
    rw c.comments-comments.ensures.value (c.comments_begun-begun.ensures.parted.1 c.comments_begun-begun.result _
    (omega arith) (omega (arith, ap length c.comments-comments.ensures.value)))

pub returns-then-not-follows-clause-found : goal.returns-then-not-follows-clause-found
returns-then-not-follows-clause-found c =
    refuted c.args.lexed.now c.args.closing c.comments_begun-begun.result _ c.comments-comments.result.now
    c.comments-comments.ensures.value
    c.comments-comments.ensures.in_order
    (omega (arith, ap length c.comments-comments.ensures.value)) c.comments_begun-begun.ensures.parted
    c.follows.result c.follows.ensures c.if-not-follows.true

pub returns-clause-found : goal.returns-clause-found
returns-clause-found c =
    confirmed c.args.lexed.now c.args.closing c.comments_begun-begun.result _ c.comments-comments.result.now
    c.comments-comments.ensures.value
    c.comments-comments.ensures.in_order
    (omega (arith, ap length c.comments-comments.ensures.value)) c.comments_begun-begun.ensures.parted
    c.follows.result c.follows.ensures c.if-not-follows.false
