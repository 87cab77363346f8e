use Rattle.protoscip.proofs.FindingReportLemmas.{one_fault_more}
use Rattle.protoscip.proofs.findings.faults_with.Goals as goal

pub loop-fault-preserved : goal.loop-fault-preserved
loop-fault-preserved c =
    one_fault_more c.args.own.now c.args.told.now c.loop-fault.faults.items c.push_other.new.faults.items
    c.loop-fault.fault-index _ c.loop-fault-test.true c.loop-fault.invariant c.in_ok-push_other.ensures
