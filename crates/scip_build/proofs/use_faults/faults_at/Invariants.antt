use Rattle.std.proofs.Common.{take}
use Rattle.scip_build.proofs.ToldUseLemmas.{AreFaultsSo}
use Rattle.scip_build.proofs.use_faults.faults_at.Given as goal

abbrev pub invariant-loop-place : goal.invariant-loop-place
invariant-loop-place l = AreFaultsSo l.linker (take l.place-index l.places) l.last l.faults.items
