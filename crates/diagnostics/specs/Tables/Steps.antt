-- How the code goes: private forms of `marks`, by characters of the source, and of `closing_len`, byte by byte; and
-- what of a line is near a place.
use Rattle.std.specs.Prelude.{List, [], ◌∷◌, ℕ, ◌+◌, Bool, not, ◌&&◌, ◌++◌, nat_eq, take, drop, if◌then◌else◌}
use Rattle.std.specs.List.{after_last, before_first, flat_map}
use Rattle.proto_lex.specs.Ascii.{backslash}
use Rattle.proto_lex.specs.Position.{is_line_end}
use Rattle.diagnostics.specs.Excerpts.{Parts, below, line_room, numbered, parts_in}
use Rattle.diagnostics.specs.Places.{without_return}
use Rattle.diagnostics.specs.Shown.{is_plain, mark}

-- a sign for each place of an escape
abbrev pub four : List ℕ → List ℕ
four sign = sign ++ sign ++ sign ++ sign

-- what is below a character of a source, as it is shown
abbrev pub signs : (sign character : List ℕ) → List ℕ
signs sign character = if is_plain character then mark sign character else flat_map (λ byte. four sign) character

-- a `\` in a string literal escapes the byte after it, if it isn't escaped itself
abbrev pub escapes : (escaped : Bool) → ℕ → Bool
escapes escaped byte = not escaped && nat_eq byte backslash

-- a byte closes a literal that this quote opened
abbrev pub closes : (quote : ℕ) → (escaped : Bool) → ℕ → Bool
closes quote escaped byte = not escaped && nat_eq byte quote

-- how many bytes it still has, by whether the first is escaped
abbrev pub closing_from : (quote : ℕ) → (escaped : Bool) → List ℕ → ℕ
closing_from quote escaped [] = 0
closing_from quote escaped (byte ∷ bytes) =
    if closes quote escaped byte then 1 else 1 + closing_from quote (escapes escaped byte) bytes

-- how many characters of a line are near a place: one more than are shown
abbrev pub near : ℕ
near = line_room + 1

-- a line with a number, and what is below it
abbrev pub both : (number : List ℕ) → Parts → List ℕ
both number parts = numbered number parts ++ below number parts

-- the line between two parts of a text, of which so many bytes are marked
abbrev pub parts_between : (front back : List ℕ) (len : ℕ) → Parts
parts_between front back len =
    parts_in (after_last is_line_end front) (take len (without_return (before_first is_line_end back)))
    (drop len (without_return (before_first is_line_end back)))
