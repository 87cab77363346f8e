-- Laws of positions.
use Rattle.std.specs.Prelude.{ℕ, ◌≡◌, ◌<◌, ◌≤◌, ◌*◌, List, length, IsUtf8, IsCharBoundary, chars}
use Rattle.std.specs.List.{flat_map}
use Rattle.std.specs.Char.Escape.{encode_utf16}
use Rattle.proto_lex.specs.Position.{position_of, line_before, IsBefore}
use Rattle.proto_lex.specs.declared.position.Encoding.{Encoding}
use Rattle.proto_lex.specs.declared.position.Encoding.TheVariants.{Utf8, Utf16}

-- A place between two characters comes before each later offset of its text.
abbrev pub CharactersRise : Type 0
CharactersRise =
    (encoding : Encoding) (text : List ℕ) (a b : ℕ)
    → IsCharBoundary text a → a < b → b ≤ length text
    → IsBefore (position_of encoding text a) (position_of encoding text b)

-- If columns count bytes, each offset comes before each later one.
abbrev pub BytesRise : Type 0
BytesRise =
    (text : List ℕ) (a b : ℕ)
    → a < b → b ≤ length text
    → IsBefore (position_of Utf8 text a) (position_of Utf8 text b)

-- The line of an offset is at most the offset.
abbrev pub LinesFit : Type 0
LinesFit = (encoding : Encoding) (text : List ℕ) (offset : ℕ) → (position_of encoding text offset).line ≤ offset

-- A column is at most twice the offset,
abbrev pub ColumnsFit : Type 0
ColumnsFit = (encoding : Encoding) (text : List ℕ) (offset : ℕ) → (position_of encoding text offset).column ≤ 2 * offset

-- and at most the offset if columns count bytes.
abbrev pub ByteColumnsFit : Type 0
ByteColumnsFit = (text : List ℕ) (offset : ℕ) → (position_of Utf8 text offset).column ≤ offset

-- A column in UTF-16 is the length of what comes before the offset on its line, in UTF-16. (Unicode Standard, section
-- 3.9, "Unicode Encoding Forms": UTF-16)
abbrev pub ColumnsCountUtf16 : Type 0
ColumnsCountUtf16 =
    (text : List ℕ) (offset : ℕ)
    → IsUtf8 text → IsCharBoundary text offset
    → (position_of Utf16 text offset).column ≡ length (flat_map encode_utf16 (chars (line_before text offset)))

-- So it is at most the offset.
abbrev pub Utf16ColumnsFit : Type 0
Utf16ColumnsFit =
    (text : List ℕ) (offset : ℕ)
    → IsUtf8 text → IsCharBoundary text offset
    → (position_of Utf16 text offset).column ≤ offset
