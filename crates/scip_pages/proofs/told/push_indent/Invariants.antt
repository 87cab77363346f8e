use Rattle.std.proofs.Common.{◌≡◌, ◌++◌}
use Rattle.scip_query.specs.MoreAnswers.{indent}
use Rattle.scip_pages.proofs.told.push_indent.Given as goal

-- those so far
abbrev pub invariant-loop-level : goal.invariant-loop-level
invariant-loop-level l =
    l.text.items ≡ l.fn.text.items ++ indent l._level
