use Rattle.std.proofs.Common.{◌+◌, ◌^◌, ◌<◌, ◌≡◌, length, drop}
use Rattle.std.specs.List.{concat}
use Rattle.scip_wire.specs.Saturated.{saturated}
use Rattle.scip_wire.proofs.spell.pieces.records_len.Given as goal

abbrev pub invariant-records : goal.invariant-records
invariant-records l = record {
  fits : l.len < 2 ^ 64;
  sum : saturated (l.len + length (concat (drop l.record-index l.records))) ≡ saturated (length (concat l.records));
}
