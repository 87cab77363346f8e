use Rattle.std.proofs.Common.{◌≡◌, ◌++◌, ℕ, List, drop}
use Rattle.std.specs.String.{string_bytes}
use Rattle.protoscip.specs.ToldLines.{AreLines}
use Rattle.protoscip.proofs.telling.push_lines.Given as goal

-- the lines so far: with those of the others they are all; and the counter is of the tree
abbrev pub invariant-loop-omission : goal.invariant-loop-omission
invariant-loop-omission l = record {
  lines : (so_far : List ℕ) × (string_bytes l.out ≡ string_bytes l.fn.out ++ so_far)
      × ((rest : List ℕ) → AreLines l.explain l.tree (drop l.omission-index l.told) rest
      → AreLines l.explain l.tree l.told (so_far ++ rest));
  counter : l.counter ≡ l.tree;
}
