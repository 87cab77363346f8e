use Rattle.std.proofs.Common.{◌≡◌, ◌++◌, take}
use Rattle.std.specs.List.{flat_map}
use Rattle.std.specs.String.{string_bytes}
use Rattle.diagnostics.specs.Shown.{escaped}
use Rattle.diagnostics.proofs.shown.push_escapes.Given as goal

-- the escapes of the bytes so far
abbrev pub invariant-loop-byte : goal.invariant-loop-byte
invariant-loop-byte l = string_bytes l.out ≡ string_bytes l.fn.out ++ flat_map escaped (take l.byte-index l.bytes)
