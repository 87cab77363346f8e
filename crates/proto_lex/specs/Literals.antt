use Rattle.std.specs.Prelude.{◌≡◌, ℕ, Bool, true, ◌||◌, not, codes, List, [], ◌∷◌, ◌++◌, nat_eq}
use Rattle.std.specs.List.{list_any, list_all}
use Rattle.proto_lex.specs.Bytes.{is_octal_digit, is_hex_digit, is_hex_mark, is_quote}
use Rattle.proto_lex.specs.Ascii as ascii

-- Strings (proto3 specification, String literals).

-- a byte of a character that means itself in such a string: none of \n, NUL, `\` and the string's quote
abbrev pub is_plain : ℕ → ℕ → Bool
is_plain quote b = not (nat_eq b quote || nat_eq b ascii.line_feed || nat_eq b ascii.nul || nat_eq b ascii.backslash)

-- one of a b f n r t v ? \ " ' (`?` is the profile's)
abbrev pub is_escape_letter : ℕ → Bool
is_escape_letter b = list_any (nat_eq b) (codes "abfnrtv?") || nat_eq b ascii.backslash || is_quote b

-- what is after the `\` of an escape
pub data IsEscape : List ℕ → Type 0 where
  letter : {b : ℕ} → is_escape_letter b ≡ true → IsEscape (b ∷ [])
  one_hex : {x a : ℕ} → is_hex_mark x ≡ true → list_all is_hex_digit (a ∷ []) ≡ true → IsEscape (x ∷ (a ∷ []))
  two_hex : {x a b : ℕ} → is_hex_mark x ≡ true → list_all is_hex_digit (a ∷ (b ∷ [])) ≡ true
      → IsEscape (x ∷ (a ∷ (b ∷ [])))
  one_octal : {a : ℕ} → list_all is_octal_digit (a ∷ []) ≡ true → IsEscape (a ∷ [])
  two_octal : {a b : ℕ} → list_all is_octal_digit (a ∷ (b ∷ [])) ≡ true → IsEscape (a ∷ (b ∷ []))
  three_octal : {a b c : ℕ} → list_all is_octal_digit (a ∷ (b ∷ (c ∷ []))) ≡ true → IsEscape (a ∷ (b ∷ (c ∷ [])))
  -- `u` and four hexadecimal digits
  short_unicode : {a b c d : ℕ} → list_all is_hex_digit (a ∷ (b ∷ (c ∷ (d ∷ [])))) ≡ true
      → IsEscape (ascii.lower_u ∷ (a ∷ (b ∷ (c ∷ (d ∷ [])))))
  -- `U000` and five hexadecimal digits
  long_unicode : {a b c d e : ℕ} → list_all is_hex_digit (a ∷ (b ∷ (c ∷ (d ∷ (e ∷ []))))) ≡ true
      → IsEscape (ascii.upper_u ∷ (ascii.zero ∷ (ascii.zero ∷ (ascii.zero ∷ (a ∷ (b ∷ (c ∷ (d ∷ (e ∷ [])))))))))
  -- `U0010` and four hexadecimal digits
  last_unicode : {a b c d : ℕ} → list_all is_hex_digit (a ∷ (b ∷ (c ∷ (d ∷ [])))) ≡ true
      → IsEscape (ascii.upper_u ∷ (ascii.zero ∷ (ascii.zero ∷ (ascii.one ∷ (ascii.zero ∷ (a ∷ (b ∷ (c ∷ (d ∷ [])))))))))

-- what is after the opening quote: characters and escapes, and then the same quote
pub data EndsLiteral (quote : ℕ) : List ℕ → Type 0 where
  close : EndsLiteral quote (quote ∷ [])
  character : {b : ℕ} {others : List ℕ} → is_plain quote b ≡ true → EndsLiteral quote others
      → EndsLiteral quote (b ∷ others)
  escape : {letters others : List ℕ} → IsEscape letters → EndsLiteral quote others
      → EndsLiteral quote (ascii.backslash ∷ (letters ++ others))
