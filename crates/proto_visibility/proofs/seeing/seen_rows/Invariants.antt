use Rattle.std.proofs.Common.{◌≡◌, ◌≤◌, ℕ, Some, List, length, vec_capacity}
use Rattle.std.specs.List.{slice_get}
use Rattle.proto_visibility.specs.Tables.Rows.{files_at}
use Rattle.proto_visibility.proofs.SeeingLemmas.{IsRowOf}
use Rattle.proto_visibility.proofs.seeing.seen_rows.Given as goal

abbrev pub invariant-loop-file : goal.invariant-loop-file
invariant-loop-file l = record {
  count : length l.rows.items ≡ l.file;
  files : l.search.files ≡ length l.table;
  room : length l.table ≤ vec_capacity l.rows;
  each : (file : ℕ) (row : List ℕ)
      → slice_get l.rows.items file ≡ Some row → IsRowOf l.table file (files_at l.order row);
}
