-- A line of a source, with a part of it marked.
use Rattle.std.specs.Prelude.{ℕ, ◌+◌, ◌-◌, Bool, nat_eq, nat_lt, List, [], ◌∷◌, ◌++◌, length, take, drop, codes, if◌then◌else◌}
use Rattle.std.specs.Fmt.{decimal}
use Rattle.std.specs.List.{flat_map}
use Rattle.diagnostics.specs.Characters.{characters}
use Rattle.diagnostics.specs.Places.{line_number, line_after, token_len}
use Rattle.diagnostics.specs.Shown.{shown_text, marks}
use Rattle.proto_lex.specs.Position.{line_before}

-- the characters of a line before its marked part, of this part, and after it
pub record Parts : Type 0 where
  pub before : List (List ℕ)
  pub marked : List (List ℕ)
  pub behind : List (List ℕ)

abbrev pub parts_in : (before marked behind : List ℕ) → Parts
parts_in before marked behind =
    record { before = characters before; marked = characters marked; behind = characters behind }

-- by the offset of the marked part and its length
abbrev pub parts_of : List ℕ → (at len : ℕ) → Parts
parts_of text at len = parts_in (line_before text at) (take len (line_after text at)) (drop len (line_after text at))

-- the most characters that are shown: of a line, on each side of a place of a longer line, and of a token in a
-- sentence
abbrev pub line_room : ℕ
line_room = 200

abbrev pub side_room : ℕ
side_room = 100

abbrev pub token_room : ℕ
token_room = 40

-- A line of at most `line_room` characters is shown whole; of a longer one at most `side_room` are shown on each side
-- of the place.
abbrev pub room : Parts → ℕ
room parts =
    if nat_lt line_room (length parts.before + length parts.marked + length parts.behind) then side_room else line_room

abbrev pub last_of : ℕ → List (List ℕ) → List (List ℕ)
last_of count characters = drop (length characters - count) characters

-- what is shown where characters are left out
abbrev pub where_cut : Bool → List ℕ → List ℕ
where_cut cut text = if cut then text else []

-- what is shown of a line before its marked part, of this part, and after it: with `...` where the line is cut
abbrev pub shown_before : Parts → List ℕ
shown_before parts =
    where_cut (nat_lt (room parts) (length parts.before)) (codes "...")
    ++ shown_text (last_of (room parts) parts.before)

abbrev pub shown_marked : Parts → List ℕ
shown_marked parts = shown_text (take (room parts) parts.marked)

abbrev pub shown_behind : Parts → List ℕ
shown_behind parts =
    shown_text (take (room parts - length parts.marked) parts.behind)
    ++ where_cut (nat_lt (room parts) (length parts.marked + length parts.behind)) (codes "...")

abbrev pub shown_line : Parts → List ℕ
shown_line parts = shown_before parts ++ shown_marked parts ++ shown_behind parts

-- carets below what is marked, or one caret below a place
abbrev pub carets : List ℕ → List ℕ
carets [] = codes "^"
carets (byte ∷ bytes) = marks (codes "^") (byte ∷ bytes)

-- what is below the line
abbrev pub mark_line : Parts → List ℕ
mark_line parts = marks (codes " ") (shown_before parts) ++ carets (shown_marked parts)

-- a space for each digit
abbrev pub blanks : List ℕ → List ℕ
blanks digits = flat_map (λ digit. codes " ") digits

-- the line after its number, and what is below it, each after a line end
abbrev pub numbered : (number : List ℕ) → Parts → List ℕ
numbered number parts = codes "\n  " ++ number ++ codes " | " ++ shown_line parts

abbrev pub below : (number : List ℕ) → Parts → List ℕ
below number parts = codes "\n  " ++ blanks number ++ codes " | " ++ mark_line parts

abbrev pub excerpt : List ℕ → (at len : ℕ) → List ℕ
excerpt text at len =
    numbered (decimal (line_number text at)) (parts_of text at len)
    ++ below (decimal (line_number text at)) (parts_of text at len)

-- bytes of a source in a sentence, at most `token_room` of their characters
abbrev pub quoted : List ℕ → List ℕ
quoted bytes =
    codes "`" ++ shown_text (take token_room (characters bytes))
    ++ where_cut (nat_lt token_room (length (characters bytes))) (codes "...") ++ codes "`"

-- the token that the parser met, by the bytes from it on
abbrev pub met : List ℕ → List ℕ
met bytes = if nat_eq (length bytes) 0 then codes "the text ends here: "
    else codes "met " ++ quoted (take (token_len bytes) bytes) ++ codes ": "
