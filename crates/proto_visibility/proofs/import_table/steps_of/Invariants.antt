use Rattle.std.proofs.Common.{◌≡◌, ◌≤◌, length, vec_capacity}
use Rattle.proto_visibility.specs.Tables.ImportTables.{number_in}
use Rattle.proto_visibility.proofs.ImportTableLemmas.{AreStepsUpTo}
use Rattle.proto_visibility.proofs.import_table.steps_of.Given as goal

abbrev pub invariant-loop-file : goal.invariant-loop-file
invariant-loop-file l = record {
  count : length l.table.items ≡ l.file-index;
  room : length l.files ≤ vec_capacity l.table;
  each : AreStepsUpTo (number_in l.numbers) l.files l.table.items l.file-index;
}
