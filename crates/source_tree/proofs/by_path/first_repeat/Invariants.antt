use Rattle.std.proofs.Common.{ℕ, ◌<◌}
use Rattle.source_tree.specs.Files.{RepeatsAPath}
use Rattle.source_tree.proofs.by_path.first_repeat.Given as goal

abbrev pub invariant-loop-number : goal.invariant-loop-number
invariant-loop-number l = record { begun : 0 < l.number; none : (k : ℕ) → k < l.number → RepeatsAPath l.files k → ⊥ }
