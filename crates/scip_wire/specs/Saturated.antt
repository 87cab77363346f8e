-- Lengths that may be past the last u64.
use Rattle.std.specs.Prelude.{ℕ, ◌-◌, ◌^◌, min, List, length}
use Rattle.scip_wire.specs.Fields.{Field}
use Rattle.scip_wire.specs.Spelling.{bytes_of}

-- a length, or the last u64 if it is above
abbrev pub saturated : ℕ → ℕ
saturated n = min n (2 ^ 64 - 1)

-- the length of the records of these fields
abbrev pub fields_len : List Field → ℕ
fields_len fields = length (bytes_of fields)
