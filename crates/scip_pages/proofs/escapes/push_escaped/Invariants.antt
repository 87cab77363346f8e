use Rattle.std.proofs.Common.{◌≡◌, ◌++◌, length}
use Rattle.scip_pages.specs.Escapes.{escape}
use Rattle.scip_pages.proofs.escapes.push_escaped.Given as goal

-- the bytes so far, and those that are left
abbrev pub invariant-loop-rest : goal.invariant-loop-rest
invariant-loop-rest l = l.page.items ++ escape l.rest ≡ l.fn.page.items ++ escape l.text

abbrev pub decreases-loop-rest : goal.decreases-loop-rest
decreases-loop-rest l = length l.rest
