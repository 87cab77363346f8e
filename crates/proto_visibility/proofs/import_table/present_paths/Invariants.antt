use Rattle.proto_visibility.proofs.ImportTableLemmas.{ArePathsUpTo}
use Rattle.proto_visibility.proofs.import_table.present_paths.Given as goal

abbrev pub invariant-loop-number : goal.invariant-loop-number
invariant-loop-number l = ArePathsUpTo l.files l.paths l.number
