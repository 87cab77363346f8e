use Rattle.std.proofs.Common.{◌≡◌, ◌++◌, take}
use Rattle.std.specs.List.{flat_map}
use Rattle.std.specs.String.{string_bytes}
use Rattle.scip_query.specs.MoreAnswers.{outline_line}
use Rattle.scip_query.specs.MoreViews.{outlined_view}
use Rattle.scip_query.proofs.more_answer.push_outline.Given as goal

-- the definitions so far
abbrev pub invariant-loop-outlined : goal.invariant-loop-outlined
invariant-loop-outlined l =
    string_bytes l.text ≡ string_bytes l.fn.text
    ++ flat_map (λ o. outline_line (outlined_view o)) (take l.outlined-index l.outline)
