use Rattle.std.proofs.Common.{◌∙◌, ℕ, List, arith}
use Rattle.std.specs.Borrow.{Bor}
use Rattle.comment_texts.specs.Comments.{plain}
use Rattle.comment_texts.proofs.IndentationLemmas.{all_counted}
use Rattle.comment_texts.proofs.comment.plain_indentation.Goals as goal

pub returns : goal.returns
returns c =
    c.unwrap_or.ensures
    ∙ all_counted plain (λ (line : Bor (List ℕ)). line.now) c.loop-line.least c.args.lines.now c.loop-line.line-index
    (omega arith) c.loop-line.invariant
