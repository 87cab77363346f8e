use Rattle.std.proofs.Common.{◌≡◌, length}
use Rattle.scip_wire.specs.Fields.{max_varint_len}
use Rattle.scip_wire.specs.Reading.{fold_at, varint_at, packed_step}
use Rattle.scip_wire.specs.Blamed.{packed_fault}
use Rattle.scip_wire.proofs.read.range.add_packed.Given as goal

-- what is left gives the same as all
abbrev pub invariant-varints : goal.invariant-varints
invariant-varints l = record {
  reads : fold_at (varint_at max_varint_len) packed_step l.rest l.numbers
      ≡ fold_at (varint_at max_varint_len) packed_step l.bytes l.fn.numbers;
  blames : packed_fault l.start l.rest l.numbers ≡ packed_fault l.start l.bytes l.fn.numbers;
}

abbrev pub decreases-varints : goal.decreases-varints
decreases-varints l = length l.rest
