use Rattle.std.proofs.Common.{◌≡◌, ◌++◌, ℕ, List, take}
use Rattle.std.specs.Borrow.{Bor}
use Rattle.std.specs.List.{flat_map}
use Rattle.std.specs.String.{string_bytes}
use Rattle.scip_query.specs.AnswerText.{quoted}
use Rattle.scip_query.proofs.answer.push_texts.Given as goal

-- the texts so far
abbrev pub invariant-loop-lines : goal.invariant-loop-lines
invariant-loop-lines l =
    string_bytes l.text ≡ string_bytes l.fn.text
    ++ flat_map (λ (t : Bor (List ℕ)). quoted t.now) (take l.lines-index l.texts)
