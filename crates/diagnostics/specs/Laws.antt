-- Laws of what is shown.
use Rattle.std.specs.Prelude.{ℕ, ◌≡◌, ◌≤◌, ◌<◌, ◌^◌, ◌⊎◌, Bool, List, [], ◌∷◌, ◌++◌, length, map, take, drop, codes}
use Rattle.std.specs.Prelude.{IsUtf8, chars}
use Rattle.std.specs.Char.{encode_utf8}
use Rattle.std.specs.Fmt.{decimal}
use Rattle.std.specs.List.{AllByRecursion}
use Rattle.std.specs.Str.{NoCharPasses}
use Rattle.diagnostics.specs.Characters.{characters}
use Rattle.diagnostics.specs.Excerpts.{line_room, token_room, parts_of, shown_before, shown_marked, shown_line}
use Rattle.diagnostics.specs.Excerpts.{excerpt, quoted}
use Rattle.diagnostics.specs.Places.{line_number, line_after, column, place_text}
use Rattle.diagnostics.specs.Shown.{is_obeyed, is_tab}
use Rattle.proto_lex.specs.Ascii as ascii
use Rattle.proto_lex.specs.Position.{line_before}

-- In UTF-8 the characters of bytes are those that the text has. (Unicode Standard, section 3.9)
abbrev pub AreOfTheText : Type 0
AreOfTheText = (text : List ℕ) → IsUtf8 text → characters text ≡ map encode_utf8 (chars text)

-- ---- what a terminal obeys

-- A text in which a terminal obeys nothing: no control character but tabs, and none that turns.
abbrev pub IsTame : List ℕ → Type 0
IsTame text = NoCharPasses is_obeyed text

-- A place is one, whatever the path has,
abbrev pub PlacesAreTame : Type 0
PlacesAreTame = (path text : List ℕ) (at : ℕ) → length text < 2 ^ 64 → IsTame (place_text path text at)

-- and so are bytes between backquotes.
abbrev pub QuotesAreTame : Type 0
QuotesAreTame = (bytes : List ℕ) → IsTame (quoted bytes)

-- An excerpt is two of them, each after a line end.
abbrev pub ExcerptsAreTame : Type 0
ExcerptsAreTame =
    (text : List ℕ) (at len : ℕ) → length text < 2 ^ 64
    → (line below : List ℕ) × (excerpt text at len ≡ ascii.line_feed ∷ (line ++ ascii.line_feed ∷ below)) × IsTame line
    × IsTame below

-- ---- what stands below

-- how wide a text is: how many characters it has, and which of them are tabs
abbrev pub width : List ℕ → List Bool
width text = map is_tab (characters text)

-- as wide as a text, and of a sign and tabs alone
abbrev pub IsBelow : (sign : ℕ) → (below text : List ℕ) → Type 0
IsBelow sign below text = (width below ≡ width text) × AllByRecursion (λ b. (b ≡ sign) ⊎ (b ≡ ascii.tab)) below

-- `^`
abbrev pub caret : ℕ
caret = 94

-- carets below what is marked; one where nothing is
abbrev pub MarkIt : (carets marked : List ℕ) → Type 0
MarkIt carets [] = carets ≡ codes "^"
MarkIt carets (byte ∷ bytes) = IsBelow caret carets (byte ∷ bytes)

-- a line's number in its margin
abbrev pub margin : List ℕ → ℕ → List ℕ
margin text at = codes "  " ++ decimal (line_number text at)

-- Below the margin and what is shown of the line before its marked part there are blanks, as wide, and then carets.
abbrev pub MarksStandBelow : Type 0
MarksStandBelow =
    (text : List ℕ) (at len : ℕ) → length text < 2 ^ 64
    → (edge blanks carets : List ℕ)
    × (excerpt text at len
    ≡ ascii.line_feed ∷ (margin text at ++ codes " | " ++ shown_line (parts_of text at len)
    ++ ascii.line_feed ∷ (edge ++ codes " | " ++ blanks ++ carets)))
    × IsBelow ascii.space edge (margin text at)
    × IsBelow ascii.space blanks (shown_before (parts_of text at len))
    × MarkIt carets (shown_marked (parts_of text at len))

-- ---- what is shown whole

-- A line of at most `line_room` characters is shown as it is, if it is UTF-8 and a terminal obeys nothing in it, and
-- its marked part begins and ends with characters.
abbrev pub ShortLinesAreWhole : Type 0
ShortLinesAreWhole =
    (text : List ℕ) (at len : ℕ)
    → IsUtf8 (line_before text at) → IsUtf8 (take len (line_after text at)) → IsUtf8 (drop len (line_after text at))
    → IsTame (line_before text at ++ line_after text at)
    → length (chars (line_before text at ++ line_after text at)) ≤ line_room
    → shown_line (parts_of text at len) ≡ line_before text at ++ line_after text at

-- So is a path,
abbrev pub PathsAreWhole : Type 0
PathsAreWhole =
    (path text : List ℕ) (at : ℕ) → IsUtf8 path → IsTame path
    → place_text path text at
    ≡ path ++ codes ":" ++ decimal (line_number text at) ++ codes ":" ++ decimal (column text at) ++ codes ": "

-- and what is quoted, of at most `token_room` characters.
abbrev pub QuotesAreWhole : Type 0
QuotesAreWhole =
    (bytes : List ℕ) → IsUtf8 bytes → IsTame bytes → length (chars bytes) ≤ token_room
    → quoted bytes ≡ codes "`" ++ bytes ++ codes "`"
