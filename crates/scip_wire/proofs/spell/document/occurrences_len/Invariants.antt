use Rattle.std.proofs.Common.{◌+◌, ◌^◌, ◌<◌, ◌≡◌, drop, take, All}
use Rattle.scip_wire.specs.Spelling.{repeated_message_fields, occurrence_fields}
use Rattle.scip_wire.specs.Saturated.{saturated, fields_len}
use Rattle.scip_wire.specs.WellFormed.{IsFitOccurrence}
use Rattle.scip_wire.proofs.spell.document.occurrences_len.Given as goal

abbrev pub invariant-numbers : goal.invariant-numbers
invariant-numbers g l = record {
  fits : l.len < 2 ^ 64;
  sum : saturated (l.len + fields_len (repeated_message_fields 2 occurrence_fields
      (drop l.number (g.D.DocumentParts.document l.document).occurrences)))
      ≡ saturated (fields_len
      (repeated_message_fields 2 occurrence_fields (g.D.DocumentParts.document l.document).occurrences));
  fit : All IsFitOccurrence (take l.number (g.D.DocumentParts.document l.document).occurrences);
}
