use Rattle.std.proofs.Common.{◌≡◌, ◌++◌, take, ℕ}
use Rattle.std.specs.List.{flat_map}
use Rattle.std.specs.String.{string_bytes}
use Rattle.diagnostics.specs.Tables.Steps.{four}
use Rattle.diagnostics.proofs.shown.push_fours.Given as goal

-- the signs of the bytes so far
abbrev pub invariant-loop-byte : goal.invariant-loop-byte
invariant-loop-byte l = string_bytes l.out
    ≡ string_bytes l.fn.out ++ flat_map (λ (byte : ℕ). four l.sign) (take l._byte-index l.bytes)
