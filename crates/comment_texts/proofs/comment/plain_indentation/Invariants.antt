use Rattle.std.proofs.Common.{◌≡◌, ℕ, List, None, map, drop}
use Rattle.std.specs.Borrow.{Bor}
use Rattle.std.specs.List.{flat_map, fold}
use Rattle.comment_texts.specs.Comments.{plain}
use Rattle.comment_texts.specs.Steps.{least_with}
use Rattle.comment_texts.proofs.comment.plain_indentation.Given as goal

-- the least so far, and then that of the rest
abbrev pub invariant-loop-line : goal.invariant-loop-line
invariant-loop-line l =
    fold least_with l.least
    (flat_map plain (map (λ (line : Bor (List ℕ)). line.now) (drop l.line-index l.lines)))
    ≡ fold least_with None (flat_map plain (map (λ (line : Bor (List ℕ)). line.now) l.lines))
