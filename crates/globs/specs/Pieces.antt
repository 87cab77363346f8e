-- The pieces of patterns, and the texts that match them.
use Rattle.std.specs.Prelude.{◌≡◌, ◌≢◌, ◌≤◌, ◌<◌, ℕ, ⊤, List, [], ◌∷◌, ◌++◌}
use Rattle.std.specs.Prelude.{if◌then◌else◌, nat_eq, ◌&&◌}
use Rattle.globs.specs.declared.piece.Piece.{Piece}
use Rattle.globs.specs.declared.piece.Piece.TheVariants.{Byte, One, Run, Any}

-- a byte of a character, but not its first (RFC 3629, section 3)
abbrev pub IsLater : ℕ → Type 0
IsLater byte = (128 ≤ byte) × (byte < 192)

-- what a piece takes of a text: nothing, if it may be empty; else a first byte, and others that go on
abbrev pub MayBeEmpty : Piece → Type 0
MayBeEmpty (Byte wanted) = ⊥
MayBeEmpty One = ⊥
MayBeEmpty Run = ⊤
MayBeEmpty Any = ⊤

abbrev pub Begins : Piece → ℕ → Type 0
Begins (Byte wanted) byte = byte ≡ wanted
Begins One byte = (byte ≢ 47) × ¬ (IsLater byte)
Begins Run byte = byte ≢ 47
Begins Any byte = ⊤

abbrev pub GoesOn : Piece → ℕ → Type 0
GoesOn (Byte wanted) byte = ⊥
GoesOn One byte = IsLater byte
GoesOn Run byte = byte ≢ 47
GoesOn Any byte = ⊤

pub data Takes (piece : Piece) : List ℕ → Type 0 where
  nothing : MayBeEmpty piece → Takes piece []
  begins : {byte : ℕ} → Begins piece byte → Takes piece (byte ∷ [])
  goes_on : {part : List ℕ} (byte : ℕ) → Takes piece part → GoesOn piece byte → Takes piece (part ++ byte ∷ [])

-- a text is what the pieces take, one behind the other
pub data Matches : List Piece → (text : List ℕ) → Type 0 where
  at_end : Matches [] []
  next_piece : {piece : Piece} {pieces : List Piece} {part rest : List ℕ} → Takes piece part → Matches pieces rest
      → Matches (piece ∷ pieces) (part ++ rest)

-- a byte that means itself
abbrev pub IsPlain : ℕ → Type 0
IsPlain byte = (byte ≢ 42) × (byte ≢ 63)

-- `*` and `?` are pieces, and any other byte is meant itself
abbrev pub single : ℕ → Piece
single byte = if nat_eq byte 42 then Run else if nat_eq byte 63 then One else Byte byte

-- a pattern spells a piece by each byte, and one by two `*`
abbrev pub spelled : List ℕ → List Piece
spelled [] = []
spelled (byte ∷ []) = single byte ∷ []
spelled (byte ∷ (next ∷ rest)) =
    if nat_eq byte 42 && nat_eq next 42 then Any ∷ spelled rest else single byte ∷ spelled (next ∷ rest)

abbrev pub IsSpelled : (pattern text : List ℕ) → Type 0
IsSpelled pattern text = Matches (spelled pattern) text
