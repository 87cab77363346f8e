use Rattle.std.proofs.Common.{◌∙◌, ℕ, List, arith}
use Rattle.std.specs.Borrow.{Bor}
use Rattle.comment_texts.specs.Comments.{starred}
use Rattle.comment_texts.proofs.IndentationLemmas.{all_counted}
use Rattle.comment_texts.proofs.comment.star_indentation.Goals as goal

pub returns : goal.returns
returns c =
    c.unwrap_or.ensures
    ∙ all_counted starred (λ (line : Bor (List ℕ)). line.now) c.loop-line.least c.args.lines.now c.loop-line.line-index
    (omega arith) c.loop-line.invariant
