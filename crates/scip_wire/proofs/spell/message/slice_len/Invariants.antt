use Rattle.std.proofs.Common.{◌+◌, ◌^◌, ◌<◌, ◌≡◌, drop, take, All}
use Rattle.scip_wire.specs.Spelling.{repeated_message_fields}
use Rattle.scip_wire.specs.Saturated.{saturated, fields_len}
use Rattle.scip_wire.proofs.spell.message.slice_len.Given as goal

abbrev pub invariant-messages : goal.invariant-messages
invariant-messages g l = record {
  fits : l.len < 2 ^ 64;
  sum : saturated (l.len + fields_len
      (repeated_message_fields l.number g.M.Encode.fields (drop l.message-index l.messages)))
      ≡ saturated (fields_len (repeated_message_fields l.number g.M.Encode.fields l.messages));
  fit : All g.M.Encode.is_fit (take l.message-index l.messages);
}
