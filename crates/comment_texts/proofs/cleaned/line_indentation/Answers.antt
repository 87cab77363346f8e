use Rattle.std.proofs.Common.{◌∙◌, arith}
use Rattle.comment_texts.specs.Cleaned.{Written, written_in, own_line}
use Rattle.comment_texts.proofs.IndentationLemmas.{all_counted}
use Rattle.comment_texts.proofs.cleaned.line_indentation.Goals as goal

pub returns : goal.returns
returns c =
    c.unwrap_or.ensures
    ∙ all_counted (λ (w : Written). own_line w.kind w.between) (written_in c.args.text.now) c.loop-comment.least
    c.args.comments.now c.loop-comment.comment-index (omega arith) c.loop-comment.invariant
