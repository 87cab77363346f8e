use Rattle.std.proofs.Common.{◌≡◌, ◌++◌, ℕ, List, take}
use Rattle.std.specs.Borrow.{Bor}
use Rattle.std.specs.List.{flat_map}
use Rattle.std.specs.String.{string_bytes}
use Rattle.scip_query.specs.AnswerText.{quoted_line}
use Rattle.scip_query.proofs.answer.push_lines.Given as goal

-- the lines so far
abbrev pub invariant-loop-line : goal.invariant-loop-line
invariant-loop-line l = string_bytes l.text
    ≡ string_bytes l.fn.text ++ flat_map (λ (line : Bor (List ℕ)). quoted_line line.now) (take l.line-index l.lines)
