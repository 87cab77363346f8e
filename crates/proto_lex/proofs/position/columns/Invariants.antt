use Rattle.std.proofs.Common.{◌≡◌, take}
use Rattle.std.specs.List.{sum_by}
use Rattle.proto_lex.specs.Position as spec
use Rattle.proto_lex.proofs.position.columns.Given as goal

-- the units of the bytes so far
abbrev pub invariant-loop-byte : goal.invariant-loop-byte
invariant-loop-byte l = l.units ≡ sum_by (spec.code_units l.encoding) (take l.byte-index l.bytes)
