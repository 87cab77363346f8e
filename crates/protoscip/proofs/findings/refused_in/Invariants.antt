use Rattle.std.proofs.Common.{◌≡◌, take}
use Rattle.protoscip.specs.Findings.{refused_in}
use Rattle.protoscip.proofs.findings.refused_in.Given as goal

-- the findings so far, and the counters are of the tree
abbrev pub invariant-loop-fault : goal.invariant-loop-fault
invariant-loop-fault l = record {
  so_far : l.findings.items ≡ refused_in l.tree (take l.fault-index l.faults);
  own : l.counters.own ≡ l.tree;
  first : l.counters.first ≡ l.tree;
}
