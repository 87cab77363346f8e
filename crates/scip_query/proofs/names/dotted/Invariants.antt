use Rattle.std.proofs.Common.{◌≡◌, take}
use Rattle.scip_query.specs.Names.{dotted}
use Rattle.scip_query.proofs.names.dotted.Given as goal

-- the bytes so far
abbrev pub invariant-loop-byte : goal.invariant-loop-byte
invariant-loop-byte l = l.name.items ≡ dotted (take l.byte-index l.descriptors)
