use Rattle.std.specs.Prelude.{◌≡◌, ℕ, Bool, true, false, ◌||◌, ◌&&◌, not, cond, List, [], ◌∷◌, nat_eq, nat_le}
use Rattle.std.specs.List.{list_all}
use Rattle.proto_lex.specs.Bytes.{is_digit, is_octal_digit, is_hex_digit, is_word, is_plus_or_minus, is_exponent_mark}
use Rattle.proto_lex.specs.Bytes.{is_hex_mark, starts}
use Rattle.proto_lex.specs.Ascii as ascii

-- Numbers (proto3 specification, Integer literals and Floating-point literals).

-- a decimal, an octal or a hexadecimal number
pub data IsInteger : List ℕ → Type 0 where
  decimal : {d : ℕ} {ds : List ℕ} → (nat_le ascii.one d && nat_le d ascii.nine) ≡ true → list_all is_digit ds ≡ true
      → IsInteger (d ∷ ds)
  octal : {ds : List ℕ} → list_all is_octal_digit ds ≡ true → IsInteger (ascii.zero ∷ ds)
  hexadecimal : {x d : ℕ} {ds : List ℕ} → is_hex_mark x ≡ true → list_all is_hex_digit (d ∷ ds) ≡ true
      → IsInteger (ascii.zero ∷ (x ∷ (d ∷ ds)))

-- the first bytes are one or more digits, and then come the others
pub data Digits : List ℕ → List ℕ → Type 0 where
  digit : {d : ℕ} {others : List ℕ} → is_digit d ≡ true → Digits (d ∷ others) others
  digits : {d : ℕ} {ds others : List ℕ} → is_digit d ≡ true → Digits ds others → Digits (d ∷ ds) others

-- no bytes, or an exponent: `e` or `E`, then `+`, `-` or neither, then digits
pub data IsExponentOrNone : List ℕ → Type 0 where
  no_exponent : IsExponentOrNone []
  unsigned : {e : ℕ} {ds : List ℕ} → is_exponent_mark e ≡ true → Digits ds [] → IsExponentOrNone (e ∷ ds)
  signed : {e s : ℕ} {ds : List ℕ} → is_exponent_mark e ≡ true → is_plus_or_minus s ≡ true → Digits ds []
      → IsExponentOrNone (e ∷ (s ∷ ds))

-- digits, a point, digits or none, an exponent or none; digits and an exponent; a point, digits, an exponent or none
pub data IsFloat : List ℕ → Type 0 where
  whole : {bytes exponent : List ℕ} → Digits bytes (ascii.dot ∷ exponent) → IsExponentOrNone exponent → IsFloat bytes
  fraction : {bytes ds exponent : List ℕ} → Digits bytes (ascii.dot ∷ ds) → Digits ds exponent
      → IsExponentOrNone exponent → IsFloat bytes
  power : {bytes exponent : List ℕ} {e : ℕ} → Digits bytes (e ∷ exponent) → IsExponentOrNone (e ∷ exponent)
      → IsFloat bytes
  point_first : {ds exponent : List ℕ} → Digits ds exponent → IsExponentOrNone exponent → IsFloat (ascii.dot ∷ ds)

-- a number begins with a digit, or with a `.` directly before a digit
abbrev pub begins_number : List ℕ → Bool
begins_number [] = false
begins_number (b ∷ others) = is_digit b || nat_eq b ascii.dot && starts is_digit others

-- a number that begins with `0x` or `0X` holds no sign
abbrev pub begins_hexadecimal : List ℕ → Bool
begins_hexadecimal [] = false
begins_hexadecimal (b ∷ others) = nat_eq b ascii.zero && starts is_hex_mark others

-- the run of a number, in which the byte `last` is, goes on with `next`: a letter, a digit, `_`, `.`, or a `+` or `-`
-- directly after an `e` or `E` in a run that may hold signs
abbrev pub goes_on : Bool → ℕ → ℕ → Bool
goes_on may_hold_signs last next =
    is_word next || nat_eq next ascii.dot || may_hold_signs && is_exponent_mark last && is_plus_or_minus next

-- the longest part that the run takes of the bytes after `last`
abbrev pub run_after : Bool → ℕ → List ℕ → List ℕ
run_after may_hold_signs last [] = []
run_after may_hold_signs last (b ∷ others) =
    cond (goes_on may_hold_signs last b) (b ∷ run_after may_hold_signs b others) []

-- the run of a number that begins the bytes
abbrev pub run_of : List ℕ → List ℕ
run_of [] = []
run_of (b ∷ others) = b ∷ run_after (not (begins_hexadecimal (b ∷ others))) b others
