use Rattle.std.proofs.Common.{◌+◌, ◌≡◌, length}
use Rattle.scip_wire.specs.Spelling.{varint}
use Rattle.scip_wire.proofs.spell.varint.varint_len.Given as goal

abbrev pub invariant-groups : goal.invariant-groups
invariant-groups l = l.len + length (varint l.rest) ≡ length (varint l.number) + 1

abbrev pub decreases-groups : goal.decreases-groups
decreases-groups l = l.rest
