use Rattle.std.proofs.Common.{◌≡◌, take}
use Rattle.protoscip.specs.Findings.{faults_of}
use Rattle.protoscip.proofs.findings.faults_of.Given as goal

-- the faults so far
abbrev pub invariant-loop-omission : goal.invariant-loop-omission
invariant-loop-omission l = l.faults.items ≡ faults_of (take l.omission-index l.told)
