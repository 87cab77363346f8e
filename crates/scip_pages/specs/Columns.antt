-- Columns of a line, and the bytes where they are. (`scip.proto`, Document, position_encoding)
use Rattle.std.specs.Prelude.{ℕ, ◌+◌, ◌==◌, ℤ, pos, Bool, true, nat_lt, nat_le, ◌&&◌, ◌||◌, cond, List, [], ◌∷◌, length}
use Rattle.std.specs.Prelude.{take, drop, sum_by, Option, None, Some}
use Rattle.std.specs.List.{find, range_with_len}
use Rattle.std.specs.Ordering.{int_eq}
use Rattle.scip_pages.specs.declared.columns.ColumnUnit.{ColumnUnit}
use Rattle.scip_pages.specs.declared.columns.ColumnUnit.TheVariants.{Utf8, Utf16, Utf32}

-- the unit of a position encoding; another number, also 0, names none
abbrev pub unit_of : ℤ → Option ColumnUnit
unit_of encoding =
    cond (int_eq encoding (pos 1)) (Some Utf8)
    (cond (int_eq encoding (pos 2)) (Some Utf16)
    (cond (int_eq encoding (pos 3)) (Some Utf32) None))

-- In UTF-8 the bytes of a character after its first are 128 to 191.
-- (Unicode Standard, section 3.9, "Unicode Encoding Forms")
abbrev pub is_first_byte : ℕ → Bool
is_first_byte byte = nat_lt byte 128 || nat_le 192 byte

-- The units that a byte counts for: in UTF-8 each byte one; in UTF-16 a character's first byte two if the character
-- is past U+FFFF, so that the byte is 240 or more, and else one; in UTF-32 a first byte one. The other bytes of a
-- character count for nothing there.
abbrev pub units_of : ColumnUnit → ℕ → ℕ
units_of Utf8 byte = 1
units_of Utf16 byte = cond (is_first_byte byte) (cond (nat_lt byte 240) 1 2) 0
units_of Utf32 byte = cond (is_first_byte byte) 1 0

-- the units of some bytes
abbrev pub units_in : ColumnUnit → List ℕ → ℕ
units_in unit bytes = sum_by (units_of unit) bytes

-- no character is cut in two before these bytes: they begin with a character, or are none
abbrev pub is_uncut : List ℕ → Bool
is_uncut [] = true
is_uncut (byte ∷ bytes) = is_first_byte byte

-- An offset of a line is at a column if it cuts no character and so many units come before it.
abbrev pub is_at : ColumnUnit → List ℕ → ℕ → ℕ → Bool
is_at unit line column offset = is_uncut (drop offset line) && (units_in unit (take offset line) == column)

-- The offset of a column: of those from 0 to the line's length the one that is at it. (There is at most one: a law.)
abbrev pub offset_of : ColumnUnit → List ℕ → ℕ → Option ℕ
offset_of unit line column = find (is_at unit line column) (range_with_len 0 (length line + 1))
