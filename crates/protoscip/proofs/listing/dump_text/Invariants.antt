use Rattle.std.proofs.Common.{◌≡◌, ◌≤◌, ◌*◌, ◌^◌, length, take}
use Rattle.std.specs.List.{flat_map}
use Rattle.std.specs.String.{string_bytes}
use Rattle.protoscip.specs.DumpText.{occurrence_line, all_occurrences}
use Rattle.protoscip.proofs.listing.dump_text.Given as goal

-- the lines of the documents so far, and how many they are
abbrev pub invariant-loop-document : goal.invariant-loop-document
invariant-loop-document l = record {
  lines : string_bytes l.text ≡ flat_map occurrence_line (all_occurrences (take l.document-index l.document-items));
  count : l.count ≡ length (all_occurrences (take l.document-index l.document-items));
  small : l.count ≤ 2 ^ 64 * l.document-index;
}
