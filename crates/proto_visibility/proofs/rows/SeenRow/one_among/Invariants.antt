use Rattle.proto_visibility.proofs.FileOrderLemmas.{NoneOfRunsUpTo}
use Rattle.proto_visibility.proofs.rows.SeenRow.one_among.Given as goal

abbrev pub invariant-loop-run : goal.invariant-loop-run
invariant-loop-run l = NoneOfRunsUpTo l.self-inside.order.now l.run-items l.numbers l.run-index
