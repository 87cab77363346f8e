use Rattle.proto_visibility.specs.Tables.ImportTables.{number_in, NoneIsAbsentUpTo}
use Rattle.proto_visibility.proofs.absent.absent_along.Given as goal

abbrev pub invariant-loop-import : goal.invariant-loop-import
invariant-loop-import l = NoneIsAbsentUpTo (number_in l.paths) l.included l.imports l.import-index
