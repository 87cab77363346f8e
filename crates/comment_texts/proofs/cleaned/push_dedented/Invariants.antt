use Rattle.std.proofs.Common.{◌≡◌, ◌++◌, ℕ, List, map, take}
use Rattle.std.specs.Borrow.{Bor}
use Rattle.comment_texts.specs.Lines.{without_last_blanks}
use Rattle.comment_texts.specs.Comments.{behind_star, dedented}
use Rattle.comment_texts.proofs.cleaned.push_dedented.Given as goal

-- the lines so far
abbrev pub invariant-loop-line : goal.invariant-loop-line
invariant-loop-line l = l.lines.items ≡ l.fn.lines.items
    ++ map (λ (line : Bor (List ℕ)). without_last_blanks (dedented l.stars l.plains (behind_star line.now) line.now))
    (take l.line-index l.others)
