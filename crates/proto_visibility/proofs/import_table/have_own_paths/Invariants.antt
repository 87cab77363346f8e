use Rattle.proto_visibility.proofs.ImportTableLemmas.{AreNumberedUpTo, OwnUpTo}
use Rattle.proto_visibility.proofs.import_table.have_own_paths.Given as goal

abbrev pub invariant-loop-number : goal.invariant-loop-number
invariant-loop-number l =
    record { numbered : AreNumberedUpTo l.files l.numbers l.number; own : OwnUpTo l.files l.number }
