-- A place of a source, as editors show it: lines and columns count from 1, columns in characters.
use Rattle.std.specs.Prelude.{ℕ, ◌+◌, ◌-◌, List, [], ◌++◌, ◌∷◌, length, take, drop, nat_eq}
use Rattle.std.specs.Prelude.{slice_index, codes}
use Rattle.std.specs.Prelude.{if◌then◌else◌}
use Rattle.std.specs.Fmt.{decimal}
use Rattle.std.specs.List.{before_first, prefix_len}
use Rattle.proto_lex.specs.Ascii.{backslash, carriage_return}
use Rattle.proto_lex.specs.Bytes.{is_quote, is_word}
use Rattle.proto_lex.specs.Position.{is_line_end, line_of, line_before}
use Rattle.diagnostics.specs.Characters.{characters}
use Rattle.diagnostics.specs.Shown.{shown_text}

-- the number of an offset's line
abbrev pub line_number : List ℕ → ℕ → ℕ
line_number text at = line_of text at + 1

abbrev pub column : List ℕ → ℕ → ℕ
column text at = length (characters (line_before text at)) + 1

-- `PATH:LINE:COLUMN: `
abbrev pub place_text : List ℕ → List ℕ → ℕ → List ℕ
place_text path text at =
    shown_text (characters path) ++ codes ":" ++ decimal (line_number text at) ++ codes ":" ++ decimal (column text at)
    ++ codes ": "

-- a line without the `\r` that ends it
abbrev pub without_return : List ℕ → List ℕ
without_return line =
    if nat_eq (slice_index line (length line - 1)) carriage_return then take (length line - 1) line else line

-- what is on an offset's line from it on
abbrev pub line_after : List ℕ → ℕ → List ℕ
line_after text at = without_return (before_first is_line_end (drop at text))

-- ---- tokens

-- How many bytes a string literal has after its opening quote: up to its closing one, or all if that is missing. A `\`
-- and the byte after it belong together, so that no quote between them closes. (Protocol Buffers Version 3 Language
-- Specification, String literals)
abbrev pub closing_len : (quote : ℕ) → List ℕ → ℕ
closing_len quote [] = 0
closing_len quote (byte ∷ []) = 1
closing_len quote (byte ∷ second ∷ others) =
    if nat_eq byte quote then 1
    else if nat_eq byte backslash then 2 + closing_len quote others
    else 1 + closing_len quote (second ∷ others)

abbrev pub first_len : List (List ℕ) → ℕ
first_len [] = 0
first_len (character ∷ others) = length character

-- a string literal, or else one character
abbrev pub sign_len : List ℕ → ℕ
sign_len [] = 0
sign_len (byte ∷ bytes) =
    if is_quote byte then 1 + closing_len byte bytes else first_len (characters (byte ∷ bytes))

-- how many bytes the token at a place has: letters, digits and `_`, or a string literal, or else one character
abbrev pub token_len : List ℕ → ℕ
token_len bytes = if nat_eq (prefix_len is_word bytes) 0 then sign_len bytes else prefix_len is_word bytes
