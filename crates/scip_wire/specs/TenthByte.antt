-- Why bytes begin with no varint, in the words of its encoding (Encoding, Base 128 Varints): a law says that this is
-- `NoVarint`.
use Rattle.std.specs.Prelude.{◌≡◌, ℕ, ◌<◌, ◌≤◌, List, ◌∷◌, ◌++◌, length}
use Rattle.std.specs.List.{AllByRecursion}
use Rattle.scip_wire.specs.declared.wire_fault.WireFault.{WireFault}
use Rattle.scip_wire.specs.declared.wire_fault.WireFault.TheVariants.{Truncated, Varint}

abbrev pub IsByte : ℕ → Type 0
IsByte byte = byte < 256

-- its top bit says that the varint goes on behind it
abbrev pub GoesOn : ℕ → Type 0
GoesOn byte = 128 ≤ byte

-- fewer than ten bytes, which all go on; or nine that go on, and a tenth over 1
pub data CutOrOver (start : ℕ) (bytes : List ℕ) : WireFault → Type 0 where
  cut : AllByRecursion GoesOn bytes → length bytes < 10 → CutOrOver start bytes (Truncated start)
  over : (front rest : List ℕ) (tenth : ℕ) → bytes ≡ front ++ tenth ∷ rest → AllByRecursion GoesOn front
      → length front ≡ 9 → 1 < tenth → CutOrOver start bytes (Varint start)
