use Rattle.std.proofs.Common.{◌+◌, ◌^◌, ◌<◌, ◌≡◌, drop, take, All}
use Rattle.scip_wire.specs.Spelling.{repeated_message_fields, info_fields}
use Rattle.scip_wire.specs.Saturated.{saturated, fields_len}
use Rattle.scip_wire.specs.WellFormed.{IsFitInfo}
use Rattle.scip_wire.proofs.spell.document.entries_len.Given as goal

abbrev pub invariant-numbers : goal.invariant-numbers
invariant-numbers g l = record {
  fits : l.len < 2 ^ 64;
  sum : saturated (l.len + fields_len (repeated_message_fields 3 info_fields
      (drop l.number (g.D.DocumentParts.document l.document).symbols)))
      ≡ saturated (fields_len
      (repeated_message_fields 3 info_fields (g.D.DocumentParts.document l.document).symbols));
  fit : All IsFitInfo (take l.number (g.D.DocumentParts.document l.document).symbols);
}
