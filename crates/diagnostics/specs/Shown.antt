-- What is shown of a text on a terminal, and what stands below it.
use Rattle.std.specs.Prelude.{ℕ, ◌/◌, ◌%◌, Bool, false, not, ◌&&◌, ◌||◌, nat_eq, List, [], ◌∷◌, ◌++◌, codes}
use Rattle.std.specs.Prelude.{if◌then◌else◌}
use Rattle.std.specs.Char.{digit_char, encode_utf8, is_control}
use Rattle.std.specs.Int.{is_in_range}
use Rattle.std.specs.List.{flat_map, list_any}
use Rattle.std.specs.Str.{chars, is_utf8}
use Rattle.proto_lex.specs.Ascii.{tab}
use Rattle.diagnostics.specs.Characters.{characters}

-- a character that turns the direction in which others are shown (Unicode Character Database, property Bidi_Control)
abbrev pub turns : ℕ → Bool
turns character =
    nat_eq character 0x61C
    || is_in_range 0x200E 0x200F character
    || is_in_range 0x202A 0x202E character
    || is_in_range 0x2066 0x2069 character

-- one that a terminal obeys: it turns, or is a control character (U+0000 to U+001F and U+007F to U+009F; ISO 6429),
-- but no tab
abbrev pub is_obeyed : ℕ → Bool
is_obeyed character = (is_control character && not (nat_eq character tab)) || turns character

-- bytes that are shown as they are: UTF-8 in which a terminal obeys nothing
abbrev pub is_plain : List ℕ → Bool
is_plain bytes = is_utf8 bytes && not (list_any is_obeyed (chars bytes))

-- `\x1b`: a byte by its two digits
abbrev pub escaped : ℕ → List ℕ
escaped byte = codes "\\x" ++ encode_utf8 (digit_char (byte / 16 % 16)) ++ encode_utf8 (digit_char (byte % 16))

-- a character, or the escapes of its bytes
abbrev pub shown : List ℕ → List ℕ
shown character = if is_plain character then character else flat_map escaped character

abbrev pub shown_text : List (List ℕ) → List ℕ
shown_text characters = flat_map shown characters

abbrev pub is_tab : List ℕ → Bool
is_tab [] = false
is_tab (byte ∷ []) = nat_eq byte tab
is_tab (byte ∷ second ∷ others) = false

-- what is below a character that is shown: a tab below a tab, and else a sign
abbrev pub mark : (sign character : List ℕ) → List ℕ
mark sign character = if is_tab character then codes "\t" else sign

-- what is below a text that is shown
abbrev pub marks : (sign text : List ℕ) → List ℕ
marks sign text = flat_map (mark sign) (characters text)
