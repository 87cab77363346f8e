use Rattle.std.proofs.Common.{◌≡◌, ◌<◌, ℕ, length}
use Rattle.std.specs.List.{Contains}
use Rattle.proto_visibility.proofs.file_order.walk.Given as goal

abbrev pub invariant-loop-file : goal.invariant-loop-file
invariant-loop-file l = record {
  files : l.search.files ≡ length l.table;
  found : (number : ℕ) → number < l.file → Contains l.search.numbers number;
}
