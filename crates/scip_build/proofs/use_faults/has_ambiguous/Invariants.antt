use Rattle.proto_visibility.specs.declared.fault.LinkFault.TheVariants.{Ambiguous}
use Rattle.scip_build.proofs.ToldUseLemmas.{NoneIs}
use Rattle.scip_build.proofs.use_faults.has_ambiguous.Given as goal

abbrev pub invariant-loop-fault : goal.invariant-loop-fault
invariant-loop-fault l = NoneIs l.faults (Ambiguous l.place) l.fault-index
