use Rattle.std.proofs.Common.{◌≡◌, ◌++◌}
use Rattle.diagnostics.specs.Literals.{joined, texts_of}
use Rattle.diagnostics.proofs.literals.push_joined.Given as goal

-- the texts so far, and those to come
abbrev pub invariant-loop-left : goal.invariant-loop-left
invariant-loop-left l = l.out.items ++ texts_of l.left l.rest ≡ l.fn.out.items ++ joined l.bytes

abbrev pub decreases-loop-left : goal.decreases-loop-left
decreases-loop-left l = l.left
