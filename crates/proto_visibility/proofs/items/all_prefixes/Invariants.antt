use Rattle.std.proofs.Common.{◌≡◌, ◌≤◌, length, vec_capacity}
use Rattle.proto_visibility.proofs.ItemAllLemmas.{ArePrefixesUpTo}
use Rattle.proto_visibility.proofs.items.all_prefixes.Given as goal

abbrev pub invariant-loop-file : goal.invariant-loop-file
invariant-loop-file l = record {
  count : length l.prefixes.items ≡ l.file-index;
  room : length l.files ≤ vec_capacity l.prefixes;
  each : ArePrefixesUpTo l.files l.prefixes.items;
}
