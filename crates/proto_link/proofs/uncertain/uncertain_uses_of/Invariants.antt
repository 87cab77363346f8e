use Rattle.proto_link.proofs.DoubtLemmas.{AreDoubtedUpTo}
use Rattle.proto_link.proofs.uncertain.uncertain_uses_of.Given as goal

abbrev pub invariant-loop-file : goal.invariant-loop-file
invariant-loop-file l = AreDoubtedUpTo l.namespace l.file l.doubted.items
