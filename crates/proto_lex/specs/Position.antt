-- The position of an offset: its line and its column.
use Rattle.std.specs.Prelude.{ℕ, ◌≡◌, ◌+◌, ◌<◌, ◌≤◌, Bool, ◌==◌, nat_lt, if◌then◌else◌, List, [], ◌∷◌, take, count_by}
use Rattle.std.specs.Prelude.{sum_by}
use Rattle.std.specs.List.{after_last}
use Rattle.proto_lex.specs.declared.position.Encoding.{Encoding}
use Rattle.proto_lex.specs.declared.position.Encoding.TheVariants.{Utf8, Utf16}
use Rattle.proto_lex.specs.declared.position.Position.{Position}
use Rattle.proto_lex.specs.Ascii as ascii

-- A line ends at `\n` alone.
abbrev pub is_line_end : ℕ → Bool
is_line_end byte = byte == ascii.line_feed

-- The offsets after the line ends of bytes that are at an offset.
abbrev pub later_line_starts : (at : ℕ) → List ℕ → List ℕ
later_line_starts at [] = []
later_line_starts at (byte ∷ others) =
    if is_line_end byte then (at + 1) ∷ later_line_starts (at + 1) others else later_line_starts (at + 1) others

-- The offsets at which the lines of a text start: 0, and that after each line end.
abbrev pub line_starts : List ℕ → List ℕ
line_starts text = 0 ∷ later_line_starts 0 text

-- The line of an offset, from 0: how many line ends come before it.
abbrev pub line_of : List ℕ → ℕ → ℕ
line_of text offset = count_by is_line_end (take offset text)

-- The code units that a byte of a text in UTF-8 counts for. In UTF-8 each byte is a unit. In UTF-16 a character
-- counts at its first byte: two units if it is past U+FFFF, so that its first byte is 240 or more, and one if it
-- isn't; the bytes after the first, 128 to 191, count for nothing. (Unicode Standard, section 3.9, "Unicode Encoding
-- Forms": UTF-8 and UTF-16)
abbrev pub code_units : Encoding → ℕ → ℕ
code_units Utf8 byte = 1
code_units Utf16 byte =
    if nat_lt byte 128 then 1 else (if nat_lt byte 192 then 0 else (if nat_lt byte 240 then 1 else 2))

-- The position after a text. Its line is the number of line ends. Its column is the number of code
-- units since the last of them, or since the text's start. A byte order mark counts as text.
abbrev pub position_after : Encoding → List ℕ → Position
position_after encoding text = record {
  line = count_by is_line_end text;
  column = sum_by (code_units encoding) (after_last is_line_end text);
}

-- The position of an offset of a text is that after what comes before it. Both numbers count from 0.
-- (`scip.proto`, Occurrence, range; Document, position_encoding)
abbrev pub position_of : Encoding → List ℕ → ℕ → Position
position_of encoding text offset = position_after encoding (take offset text)

-- A position comes before another: on no later line, and if the line is the same, at a lesser column.
pub record IsBefore (p q : Position) : Type 0 where
  pub line : p.line ≤ q.line
  pub column : p.line ≡ q.line → p.column < q.column

-- What comes before an offset on its line.
abbrev pub line_before : List ℕ → ℕ → List ℕ
line_before text offset = after_last is_line_end (take offset text)
