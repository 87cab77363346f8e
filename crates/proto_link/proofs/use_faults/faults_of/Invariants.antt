use Rattle.std.proofs.Common.{take}
use Rattle.proto_link.proofs.UseFaultLemmas.{AreFaultsOf}
use Rattle.proto_link.proofs.use_faults.faults_of.Given as goal

abbrev pub invariant-loop-type_use : goal.invariant-loop-type_use
invariant-loop-type_use l = AreFaultsOf l.namespace l.file (take l.type_use-index l.uses) l.faults.items
