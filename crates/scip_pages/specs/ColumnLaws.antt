-- Laws of columns.
use Rattle.std.specs.Prelude.{ℕ, ◌≡◌, ◌≤◌, true, List, length, Some, IsUtf8, chars}
use Rattle.std.specs.List.{flat_map}
use Rattle.std.specs.Char.Escape.{encode_utf16}
use Rattle.scip_pages.specs.declared.columns.ColumnUnit.{ColumnUnit}
use Rattle.scip_pages.specs.declared.columns.ColumnUnit.TheVariants.{Utf8, Utf16, Utf32}
use Rattle.scip_pages.specs.Columns.{units_in, is_at, offset_of}

-- A column is at one offset at most: if an offset is at it, that is its offset.
abbrev pub AtOneOffset : Type 0
AtOneOffset =
    (unit : ColumnUnit) (line : List ℕ) (column offset : ℕ)
    → offset ≤ length line → is_at unit line column offset ≡ true → offset_of unit line column ≡ Some offset

-- The offset of a column is within the line, and at it.
abbrev pub IsAtItsOffset : Type 0
IsAtItsOffset =
    (unit : ColumnUnit) (line : List ℕ) (column offset : ℕ)
    → offset_of unit line column ≡ Some offset → (offset ≤ length line) × (is_at unit line column offset ≡ true)

-- The units of a text are as many as its encoding in that form has: bytes,
abbrev pub CountsUtf8 : Type 0
CountsUtf8 = (text : List ℕ) → units_in Utf8 text ≡ length text

-- code units of UTF-16
abbrev pub CountsUtf16 : Type 0
CountsUtf16 = (text : List ℕ) → IsUtf8 text → units_in Utf16 text ≡ length (flat_map encode_utf16 (chars text))

-- and of UTF-32, which are characters. (Unicode Standard, section 3.9, "Unicode Encoding Forms")
abbrev pub CountsUtf32 : Type 0
CountsUtf32 = (text : List ℕ) → IsUtf8 text → units_in Utf32 text ≡ length (chars text)
