use Rattle.std.proofs.Common.{◌≡◌, take}
use Rattle.protoscip.specs.Findings.{faults_with}
use Rattle.protoscip.proofs.findings.faults_with.Given as goal

-- the fault, and the others so far
abbrev pub invariant-loop-fault : goal.invariant-loop-fault
invariant-loop-fault l = l.faults.items ≡ faults_with l.own (take l.fault-index l.told)
