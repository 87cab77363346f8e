use Rattle.std.proofs.Common.{sym, subst, ℕ, List, drop}
use Rattle.proto_lex.specs.Comments.{IsComment}
use Rattle.comment_texts.proofs.MarkLemmas.{behind_mark, before_mark}
use Rattle.comment_texts.proofs.comment.between_marks.Goals as goal
use Rattle.comment_texts.proofs.comment.between_marks.Goals.{After-spelling_at-spelling}

spelled : (c : After-spelling_at-spelling)
    → IsComment c.args.comment.kind c.spelling_at-spelling.result.now
    (drop c.args.comment.span.end c.args.text.now)
spelled c =
    subst (λ (s : List ℕ). IsComment c.args.comment.kind s (drop c.args.comment.span.end c.args.text.now))
    (sym c.spelling_at-spelling.ensures) c.requires.spelled

pub range_from-requires : goal.range_from-requires
range_from-requires c = λ some. behind_mark
    (spelled (goal.at.range_from-requires c).After-spelling_at-spelling) c.spelling_at-spelling.utf8

pub range-requires-clause-start_le_end : goal.range-requires-clause-start_le_end
range-requires-clause-start_le_end c =
    (before_mark (spelled (goal.at.range-requires-clause-start_le_end c).After-spelling_at-spelling) c.in-Block.is).0

pub range-requires-clause-start_boundary : goal.range-requires-clause-start_boundary
range-requires-clause-start_boundary c =
    λ some. behind_mark (spelled (goal.at.range-requires-clause-start_boundary c).After-spelling_at-spelling)
    c.spelling_at-spelling.utf8

pub range-requires-clause-end_boundary : goal.range-requires-clause-end_boundary
range-requires-clause-end_boundary c =
    (before_mark (spelled (goal.at.range-requires-clause-end_boundary c).After-spelling_at-spelling) c.in-Block.is).1
