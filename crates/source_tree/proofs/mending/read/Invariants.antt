use Rattle.std.proofs.Common.{◌++◌, List, ℕ, length}
use Rattle.source_tree.specs.Mending.{Reads}
use Rattle.source_tree.proofs.mending.read.Given as goal

-- with what is read of the rest, what was read is what is read of all
abbrev pub invariant-loop-rest : goal.invariant-loop-rest
invariant-loop-rest l = (after : List ℕ) → Reads l.rest after → Reads l.bytes (l.text.items ++ after)

abbrev pub decreases-loop-rest : goal.decreases-loop-rest
decreases-loop-rest l = length l.rest
