-- The code units in UTF-16 that are kept of a text, and of which text they are.
use Rattle.std.specs.Prelude.{ℕ, ◌≡◌, ◌+◌, ◌*◌, ◌<◌, List, length, get_or, take, sum_by}
use Rattle.proto_lex.specs.declared.position.Encoding.TheVariants.{Utf16}
use Rattle.proto_lex.specs.Position.{code_units}

-- For as many multiples of 1,024 bytes as numbers are kept: the units before each.
abbrev pub AreUnits : (text units : List ℕ) → Type 0
AreUnits text units =
    (mark : ℕ) → mark < length units → get_or units mark 0 ≡ sum_by (code_units Utf16) (take (mark * 1024) text)

-- A line has over 1,024 bytes, from its start to the next one, or to the text's end.
abbrev pub HasLongLine : (starts : List ℕ) (len : ℕ) → Type 0
HasLongLine starts len = (line : ℕ) × (line < length starts) × (get_or starts line 0 + 1024 < get_or starts (line + 1) len)
