use Rattle.std.proofs.Common.{◌+◌, ◌^◌, ◌<◌, ◌≡◌, drop, take, All, IsUtf8}
use Rattle.scip_wire.specs.Spelling.{repeated_text_fields}
use Rattle.scip_wire.specs.Saturated.{saturated, fields_len}
use Rattle.scip_wire.proofs.spell.fields.slice_len.Given as goal

abbrev pub invariant-texts : goal.invariant-texts
invariant-texts l = record {
  fits : l.len < 2 ^ 64;
  sum : saturated (l.len + fields_len (repeated_text_fields l.number (drop l.text-index l.texts)))
      ≡ saturated (fields_len (repeated_text_fields l.number l.texts));
  fit : All IsUtf8 (take l.text-index l.texts);
}
