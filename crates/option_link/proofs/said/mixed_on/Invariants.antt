use Rattle.std.proofs.Common.{◌≡◌, take}
use Rattle.proto_decl.specs.Names.{hash64_on}
use Rattle.option_link.proofs.said.mixed_on.Given as goal

-- the bytes so far
abbrev pub invariant-loop-byte : goal.invariant-loop-byte
invariant-loop-byte l = l.more ≡ hash64_on l.hash64 (take l.byte-index l.bytes)
