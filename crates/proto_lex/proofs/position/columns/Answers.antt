use Rattle.std.proofs.Common.{arith}
use Rattle.proto_lex.proofs.PositionLemmas.{units_so_far}
use Rattle.proto_lex.proofs.position.columns.Goals as goal

pub overflow_add-units : goal.overflow_add-units
overflow_add-units c =
    omega (
      arith,
      units_so_far c.args.encoding c.args.bytes.now c.loop-byte.byte-index,
      c.loop-byte.invariant,
      c.code_units-units.ensures.few,
    )
