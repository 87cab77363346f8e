use Rattle.proto_visibility.proofs.FileOrderLemmas.{NoneOfRunUpTo}
use Rattle.proto_visibility.proofs.file_order.FileOrder.first_of_run.Given as goal

abbrev pub invariant-loop-place : goal.invariant-loop-place
invariant-loop-place l = NoneOfRunUpTo l.self l.fn.run l.numbers l.place
