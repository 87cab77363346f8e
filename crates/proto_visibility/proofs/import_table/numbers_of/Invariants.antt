use Rattle.proto_visibility.proofs.ImportTableLemmas.{AreNumberedUpTo}
use Rattle.proto_visibility.proofs.import_table.numbers_of.Given as goal

abbrev pub invariant-loop-number : goal.invariant-loop-number
invariant-loop-number l = AreNumberedUpTo l.files l.numbers l.number
