use Rattle.std.proofs.Common.{◌≡◌, ◌++◌, take}
use Rattle.std.specs.List.{flat_map}
use Rattle.std.specs.String.{string_bytes}
use Rattle.scip_query.specs.MoreAnswers.{found_lines}
use Rattle.scip_query.specs.MoreViews.{found_view}
use Rattle.scip_query.proofs.more_answer.push_all_found.Given as goal

-- the definitions so far
abbrev pub invariant-loop-found : goal.invariant-loop-found
invariant-loop-found l =
    string_bytes l.text ≡ string_bytes l.fn.text
    ++ flat_map (λ f. found_lines (found_view f)) (take l.found-index l.all)
