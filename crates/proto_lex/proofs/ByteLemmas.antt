use Rattle.std.proofs.Common.{◌≡◌, ◌≢◌, ℕ, true, false, ◌&&◌, nat_eq, nat_le, arith}
use Rattle.std.proofs.lemmas.Bool.Decides.{nat_tests}
use Rattle.proto_lex.specs.Bytes.{is_blank, is_letter, is_digit, is_octal_digit, is_hex_digit, is_plus_or_minus}
use Rattle.proto_lex.specs.Bytes.{is_exponent_mark, is_hex_mark, is_quote}
use Rattle.proto_lex.specs.Literals.{is_plain}

-- Which classes of bytes exclude or contain one another.

pub letter_not_blank : (b : ℕ) → is_letter b ≡ true → is_blank b ≡ false
letter_not_blank b h = grind (arith, nat_tests)

pub digit_not_blank : (b : ℕ) → is_digit b ≡ true → is_blank b ≡ false
digit_not_blank b h = grind (arith, nat_tests)

pub digit_not_letter : (b : ℕ) → is_digit b ≡ true → is_letter b ≡ false
digit_not_letter b h = grind (arith, nat_tests)

pub digit_not_point : (b : ℕ) → is_digit b ≡ true → nat_eq b 46 ≡ false
digit_not_point b h = grind (arith, nat_tests)

pub quote_not_blank : (b : ℕ) → is_quote b ≡ true → is_blank b ≡ false
quote_not_blank b h = grind (arith, nat_tests)

pub quote_not_letter : (b : ℕ) → is_quote b ≡ true → is_letter b ≡ false
quote_not_letter b h = grind (arith, nat_tests)

pub quote_not_digit : (b : ℕ) → is_quote b ≡ true → is_digit b ≡ false
quote_not_digit b h = grind (arith, nat_tests)

pub quote_not_point : (b : ℕ) → is_quote b ≡ true → nat_eq b 46 ≡ false
quote_not_point b h = grind (arith, nat_tests)

pub quote_not_backslash : (b : ℕ) → is_quote b ≡ true → 92 ≢ b
quote_not_backslash b h = grind (arith, nat_tests)

pub octal_is_digit : (b : ℕ) → is_octal_digit b ≡ true → is_digit b ≡ true
octal_is_digit b h = grind (arith, nat_tests)

pub nonzero_is_digit : (b : ℕ) → (nat_le 49 b && nat_le b 57) ≡ true → is_digit b ≡ true
nonzero_is_digit b h = grind (arith, nat_tests)

pub nonzero_not_zero : (b : ℕ) → (nat_le 49 b && nat_le b 57) ≡ true → nat_eq b 48 ≡ false
nonzero_not_zero b h = grind (arith, nat_tests)

pub digit_nonzero : (b : ℕ) → is_digit b ≡ true → nat_eq b 48 ≡ false → (nat_le 49 b && nat_le b 57) ≡ true
digit_nonzero b h n = grind (arith, nat_tests)

pub octal_not_hex_mark : (b : ℕ) → is_octal_digit b ≡ true → is_hex_mark b ≡ false
octal_not_hex_mark b h = grind (arith, nat_tests)

pub exponent_mark_not_digit : (b : ℕ) → is_exponent_mark b ≡ true → is_digit b ≡ false
exponent_mark_not_digit b h = grind (arith, nat_tests)

pub exponent_mark_not_point : (b : ℕ) → is_exponent_mark b ≡ true → nat_eq b 46 ≡ false
exponent_mark_not_point b h = grind (arith, nat_tests)

pub hex_mark_not_digit : (b : ℕ) → is_hex_mark b ≡ true → is_digit b ≡ false
hex_mark_not_digit b h = grind (arith, nat_tests)

pub hex_mark_not_point : (b : ℕ) → is_hex_mark b ≡ true → nat_eq b 46 ≡ false
hex_mark_not_point b h = grind (arith, nat_tests)

pub hex_mark_not_exponent_mark : (b : ℕ) → is_hex_mark b ≡ true → is_exponent_mark b ≡ false
hex_mark_not_exponent_mark b h = grind (arith, nat_tests)

pub digit_not_plus_or_minus : (b : ℕ) → is_digit b ≡ true → is_plus_or_minus b ≡ false
digit_not_plus_or_minus b h = grind (arith, nat_tests)

pub hex_is_plain : (q b : ℕ) → is_quote q ≡ true → is_hex_digit b ≡ true → is_plain q b ≡ true
hex_is_plain q b h e = grind (arith, nat_tests)

pub octal_is_plain : (q b : ℕ) → is_quote q ≡ true → is_octal_digit b ≡ true → is_plain q b ≡ true
octal_is_plain q b h e = grind (arith, nat_tests)

-- what a plain byte is not
pub plain_not_quote : (q b : ℕ) → is_plain q b ≡ true → nat_eq b q ≡ false
plain_not_quote q b h = grind (arith, nat_tests)

pub plain_not_newline : (q b : ℕ) → is_plain q b ≡ true → nat_eq b 10 ≡ false
plain_not_newline q b h = grind (arith, nat_tests)

pub plain_not_nul : (q b : ℕ) → is_plain q b ≡ true → nat_eq b 0 ≡ false
plain_not_nul q b h = grind (arith, nat_tests)

pub plain_not_backslash : (q b : ℕ) → is_plain q b ≡ true → nat_eq b 92 ≡ false
plain_not_backslash q b h = grind (arith, nat_tests)

pub is_plain_from : (q b : ℕ) → nat_eq b q ≡ false → nat_eq b 10 ≡ false → nat_eq b 0 ≡ false → nat_eq b 92 ≡ false
    → is_plain q b ≡ true
is_plain_from q b h i j k = grind (arith, nat_tests)
