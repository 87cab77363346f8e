-- What a string literal says: the bytes between its quotes, with its escapes read (proto3 specification, "String
-- literals"; protoc 3.21, `Tokenizer::ParseStringAppend`).
use Rattle.std.specs.Prelude.{ℕ, ◌+◌, ◌-◌, ◌*◌, ◌==◌, Bool, ◌&&◌, ◌||◌, cond, min, nat_le, nat_lt, List, [], ◌∷◌, ◌++◌}
use Rattle.proto_lex.specs.Ascii as ascii
use Rattle.proto_grammar.specs.Terminal.{between_quotes}
use Rattle.proto_options.specs.declared.escapes.Escape.{Escape}
use Rattle.proto_options.specs.declared.escapes.Escape.TheVariants.{Outside, Begun, Digits}

abbrev pub is_within : (low high : ℕ) → ℕ → Bool
is_within low high byte = nat_le low byte && nat_le byte high

-- what a digit is worth; a byte that is no hexadecimal digit is worth 16
abbrev pub digit_of : ℕ → ℕ
digit_of byte =
    cond (is_within 48 57 byte) (byte - 48)
    (cond (is_within 97 102 byte) (byte - 87) (cond (is_within 65 70 byte) (byte - 55) 16))

-- What a letter behind a `\` stands for: the letters of control characters, or itself.
abbrev pub letter_of : ℕ → ℕ
letter_of byte =
    cond (byte == 97) 7
    (cond (byte == 98) 8
    (cond (byte == 102) 12
    (cond (byte == 110) 10 (cond (byte == 114) 13 (cond (byte == 116) 9 (cond (byte == 118) 11 byte))))))

-- ---- one byte more

abbrev pub after_plain : ℕ → Escape
after_plain byte = cond (byte == ascii.backslash) Begun Outside

abbrev pub plain_adds : ℕ → List ℕ
plain_adds byte = cond (byte == ascii.backslash) [] (byte ∷ [])

abbrev pub no_digits : (base left : ℕ) → Escape
no_digits base left = Digits base left 0

-- up to three octal digits, two hexadecimal ones behind an `x`, four behind a `u` and eight behind a `U`
abbrev pub after_begun : ℕ → Escape
after_begun byte =
    cond (nat_lt (digit_of byte) 8) (Digits 8 2 (digit_of byte))
    (cond ((byte == 120) || (byte == 88)) (no_digits 16 2)
    (cond (byte == 117) (no_digits 16 4) (cond (byte == 85) (no_digits 16 8) Outside)))

abbrev pub begins_digits : ℕ → Bool
begins_digits byte =
    nat_lt (digit_of byte) 8 || (((byte == 120) || (byte == 88)) || ((byte == 117) || (byte == 85)))

abbrev pub begun_adds : ℕ → List ℕ
begun_adds byte = cond (begins_digits byte) [] (letter_of byte ∷ [])

abbrev pub is_digit_of : (base left : ℕ) → ℕ → Bool
is_digit_of base left byte = nat_lt 0 left && nat_lt (digit_of byte) base

-- What digits stand for; 255 for 255 and more, which is no byte of a name.
abbrev pub with_digit : (base value : ℕ) → ℕ → ℕ
with_digit base value byte = min (value * base + digit_of byte) 255

abbrev pub next : Escape → ℕ → Escape
next Outside byte = after_plain byte
next Begun byte = after_begun byte
next (Digits base left value) byte =
    cond (is_digit_of base left byte) (Digits base (left - 1) (with_digit base value byte)) (after_plain byte)

abbrev pub adds : Escape → ℕ → List ℕ
adds Outside byte = plain_adds byte
adds Begun byte = begun_adds byte
adds (Digits base left value) byte = cond (is_digit_of base left byte) [] (value ∷ plain_adds byte)

abbrev pub at_end : Escape → List ℕ
at_end (Digits base left value) = value ∷ []
at_end state = []

-- ---- all bytes

abbrev pub unescaped : Escape → List ℕ → List ℕ
unescaped state [] = at_end state
unescaped state (byte ∷ rest) = adds state byte ++ unescaped (next state byte) rest

abbrev pub literal_text : List ℕ → List ℕ
literal_text spelling = unescaped Outside (between_quotes spelling)
