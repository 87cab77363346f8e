use Rattle.std.proofs.Common.{◌≡◌, take}
use Rattle.protoscip.specs.Findings.{told_findings}
use Rattle.protoscip.proofs.findings.told_findings.Given as goal

-- the findings so far, and the counters are of the tree
abbrev pub invariant-loop-omission : goal.invariant-loop-omission
invariant-loop-omission l = record {
  so_far : l.findings.items ≡ told_findings l.tree (take l.omission-index l.told);
  own : l.counters.own ≡ l.tree;
  first : l.counters.first ≡ l.tree;
}
