use Rattle.std.specs.Prelude.{ℕ, Bool, false, ◌||◌, ◌&&◌, List, [], ◌∷◌, nat_eq, nat_le}
use Rattle.proto_lex.specs.Ascii as ascii

-- Classes of bytes (proto3 specification, Lexical elements). A text is the list of its bytes.

-- a space, or \t \n \v \f \r
abbrev pub is_blank : ℕ → Bool
is_blank b = nat_eq b ascii.space || (nat_le ascii.tab b && nat_le b ascii.carriage_return)

-- an ASCII letter or `_` (with which an identifier may begin: that is the profile's)
abbrev pub is_letter : ℕ → Bool
is_letter b =
    nat_le ascii.upper_a b && nat_le b ascii.upper_z
    || nat_le ascii.lower_a b && nat_le b ascii.lower_z
    || nat_eq b ascii.underscore

abbrev pub is_digit : ℕ → Bool
is_digit b = nat_le ascii.zero b && nat_le b ascii.nine

abbrev pub is_octal_digit : ℕ → Bool
is_octal_digit b = nat_le ascii.zero b && nat_le b ascii.seven

abbrev pub is_hex_digit : ℕ → Bool
is_hex_digit b =
    is_digit b
    || nat_le ascii.upper_a b && nat_le b ascii.upper_f
    || nat_le ascii.lower_a b && nat_le b ascii.lower_f

-- a letter, a digit or `_`
abbrev pub is_word : ℕ → Bool
is_word b = is_letter b || is_digit b

-- `+` or `-`
abbrev pub is_plus_or_minus : ℕ → Bool
is_plus_or_minus b = nat_eq b ascii.plus || nat_eq b ascii.minus

-- `e` or `E`
abbrev pub is_exponent_mark : ℕ → Bool
is_exponent_mark b = nat_eq b ascii.lower_e || nat_eq b ascii.upper_e

-- `x` or `X`
abbrev pub is_hex_mark : ℕ → Bool
is_hex_mark b = nat_eq b ascii.lower_x || nat_eq b ascii.upper_x

-- `"` or `'`
abbrev pub is_quote : ℕ → Bool
is_quote b = nat_eq b ascii.double_quote || nat_eq b ascii.single_quote

-- whether the bytes have a first one, and it passes the test
abbrev pub starts : (ℕ → Bool) → List ℕ → Bool
starts test [] = false
starts test (b ∷ _) = test b
