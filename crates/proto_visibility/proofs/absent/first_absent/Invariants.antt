use Rattle.proto_visibility.specs.Tables.ImportTables.{number_in}
use Rattle.proto_visibility.proofs.AbsentLemmas.{NoneUpTo}
use Rattle.proto_visibility.proofs.absent.first_absent.Given as goal

abbrev pub invariant-loop-number : goal.invariant-loop-number
invariant-loop-number l = NoneUpTo l.files (number_in l.paths) l.reachable l.number-index
