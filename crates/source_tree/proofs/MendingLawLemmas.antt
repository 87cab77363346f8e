-- Another byte than there is is read in comments alone: no token and no blank has a NUL.
use Rattle.std.proofs.Common.{◌≡◌, ◌∙◌, refl, ap, sym, subst, ℕ, suc, zero, ◌+◌, ◌-◌, ◌<◌, ◌≤◌, inl, inr, Bool, true, false}
use Rattle.std.proofs.Common.{List, [], ◌∷◌, ◌++◌, Some, length, take, drop, arith, append_assoc, IsUtf8, ◌&&◌, nat_le}
use Rattle.std.specs.Prelude.{None, nat_eq}
use Rattle.std.specs.List.{slice_get, list_all}
use Rattle.std.specs.Char.{encode_utf8}
use Rattle.std.proofs.lemmas.Bool.{cases_lt, false≢true}
use Rattle.std.proofs.lemmas.Bool.Decides.{nat_tests}
use Rattle.std.proofs.lemmas.Str.{IsUtf8-past_char}
use Rattle.std.specs.Str.{StartsWithNoChar}
use lib.Utf8.{encode, encodes, scalar, scalars}
use Rattle.proto_lex.specs.Ascii as ascii
use Rattle.proto_lex.specs.Bytes.{is_blank, is_letter, is_digit, is_octal_digit, is_hex_digit, is_word, is_plus_or_minus}
use Rattle.proto_lex.specs.Bytes.{is_exponent_mark, is_hex_mark, is_quote}
use Rattle.proto_lex.specs.Numbers.{IsInteger, decimal, octal, hexadecimal, Digits, digit, digits, IsExponentOrNone}
use Rattle.proto_lex.specs.Numbers.{no_exponent, unsigned, signed, IsFloat, whole, fraction, power, point_first}
use Rattle.proto_lex.specs.Literals.{is_plain, is_escape_letter, IsEscape, letter, one_hex, two_hex, one_octal, two_octal}
use Rattle.proto_lex.specs.Literals.{three_octal, short_unicode, long_unicode, last_unicode}
use Rattle.proto_lex.specs.Literals.{EndsLiteral, close, character, escape}
use Rattle.proto_lex.specs.Lexes.{sign_kind, Spells, identifier, integer, float, literal, sign, part}
use Rattle.proto_lex.specs.Hashes.{Where}
use Rattle.proto_lex.specs.Lexes.{LexesFrom, at_end, blank, comment, token, odd, LexesWith, unmarked, marked}
use Rattle.proto_lex.specs.declared.hashes.Hashes.{Hashes}
use Rattle.proto_lex.proofs.HashLemmas.{odd_high}
use Rattle.proto_lex.specs.declared.token.Token.{Token}
use Rattle.proto_lex.specs.declared.token.TokenKind.{TokenKind}
use Rattle.proto_lex.specs.declared.token.Comment.{Comment}
use Rattle.source_tree.specs.Mending.{Reads, at_end as none_read, well_formed, ill_formed, SameAt}
use Rattle.source_tree.specs.Mending.{in_comments, outside, too_long}
use Rattle.source_tree.specs.MendingLaws.{IsInComment, OtherBytesAreInComments, Utf8IsReadAsItIs}

-- ---- no token has a NUL

abbrev NoNul : List ℕ → Type 0
NoNul [] = Unit {0}
NoNul (b ∷ bytes) = (nat_eq b 0 ≡ false) × NoNul bytes

first_passes : (x y : Bool) → (x && y) ≡ true → x ≡ true
first_passes true y e = refl
first_passes false y e = e

others_pass : (x y : Bool) → (x && y) ≡ true → y ≡ true
others_pass true y e = e
others_pass false y e = absurd (false≢true e)

all_no_nul : (test : ℕ → Bool) → ((b : ℕ) → test b ≡ true → nat_eq b 0 ≡ false) → (bytes : List ℕ)
    → list_all test bytes ≡ true → NoNul bytes
all_no_nul test other [] all = tt
all_no_nul test other (b ∷ bytes) all = (
  other b (first_passes (test b) (list_all test bytes) all),
  all_no_nul test other bytes (others_pass (test b) (list_all test bytes) all),
)

no_nul_at : (bytes : List ℕ) → NoNul bytes → (at : ℕ) → slice_get bytes at ≡ Some 0 → ⊥
no_nul_at [] free at is = absurd cc
no_nul_at (b ∷ bytes) free zero is =
    let zero_is : b ≡ 0 = cc in false≢true (sym free.0 ∙ ap (λ n. nat_eq n 0) zero_is)
no_nul_at (b ∷ bytes) free (suc at) is = no_nul_at bytes free.1 at is

append_no_nul : (xs ys : List ℕ) → NoNul xs → NoNul ys → NoNul (xs ++ ys)
append_no_nul [] ys first second = second
append_no_nul (x ∷ xs) ys first second = (first.0, append_no_nul xs ys first.1 second)

letter_is : (b : ℕ) → is_letter b ≡ true → nat_eq b 0 ≡ false
letter_is b t = grind (arith, nat_tests)

word_is : (b : ℕ) → is_word b ≡ true → nat_eq b 0 ≡ false
word_is b t = grind (arith, nat_tests)

digit_is : (b : ℕ) → is_digit b ≡ true → nat_eq b 0 ≡ false
digit_is b t = grind (arith, nat_tests)

octal_is : (b : ℕ) → is_octal_digit b ≡ true → nat_eq b 0 ≡ false
octal_is b t = grind (arith, nat_tests)

hex_is : (b : ℕ) → is_hex_digit b ≡ true → nat_eq b 0 ≡ false
hex_is b t = grind (arith, nat_tests)

hex_mark_is : (b : ℕ) → is_hex_mark b ≡ true → nat_eq b 0 ≡ false
hex_mark_is b t = grind (arith, nat_tests)

exponent_is : (b : ℕ) → is_exponent_mark b ≡ true → nat_eq b 0 ≡ false
exponent_is b t = grind (arith, nat_tests)

plus_is : (b : ℕ) → is_plus_or_minus b ≡ true → nat_eq b 0 ≡ false
plus_is b t = grind (arith, nat_tests)

quote_is : (b : ℕ) → is_quote b ≡ true → nat_eq b 0 ≡ false
quote_is b t = grind (arith, nat_tests)

blank_is : (b : ℕ) → is_blank b ≡ true → nat_eq b 0 ≡ false
blank_is b t = grind (arith, nat_tests)

plain_is : (quote b : ℕ) → is_plain quote b ≡ true → nat_eq b 0 ≡ false
plain_is quote b t = grind (arith, nat_tests)

decimal_is : (b : ℕ) → (nat_le ascii.one b && nat_le b ascii.nine) ≡ true → nat_eq b 0 ≡ false
decimal_is b t = grind (arith, nat_tests)

-- of a test that NUL doesn't pass
other_is : (b : ℕ) → (b ≡ 0 → ⊥) → nat_eq b 0 ≡ false
other_is b other = grind (arith, nat_tests)

escape_is : (b : ℕ) → is_escape_letter b ≡ true → nat_eq b 0 ≡ false
escape_is b t = other_is b (λ zero_is. false≢true (sym (ap is_escape_letter zero_is) ∙ t))

some_kind : (kind : TokenKind) → None ≡ Some kind → ⊥
some_kind kind e = absurd cc

sign_is : (b : ℕ) (kind : TokenKind) → sign_kind b ≡ Some kind → nat_eq b 0 ≡ false
sign_is b kind t = other_is b (λ zero_is. some_kind kind (sym (ap sign_kind zero_is) ∙ t))

digits_no_nul : {bytes others : List ℕ} → Digits bytes others → NoNul others → NoNul bytes
digits_no_nul (digit {d} is) free = (digit_is d is, free)
digits_no_nul (digits {d} is more) free = (digit_is d is, digits_no_nul more free)

exponent_no_nul : {bytes : List ℕ} → IsExponentOrNone bytes → NoNul bytes
exponent_no_nul no_exponent = tt
exponent_no_nul (unsigned {e} is more) = (exponent_is e is, digits_no_nul more tt)
exponent_no_nul (signed {e} {s} is plus more) = (exponent_is e is, (plus_is s plus, digits_no_nul more tt))

integer_no_nul : {bytes : List ℕ} → IsInteger bytes → NoNul bytes
integer_no_nul (decimal {d} {ds} is all) = (decimal_is d is, all_no_nul is_digit digit_is ds all)
integer_no_nul (octal {ds} all) = (refl, all_no_nul is_octal_digit octal_is ds all)
integer_no_nul (hexadecimal {x} {d} {ds} is all) =
    (refl, (hex_mark_is x is, all_no_nul is_hex_digit hex_is (d ∷ ds) all))

float_no_nul : {bytes : List ℕ} → IsFloat bytes → NoNul bytes
float_no_nul (whole front more) = digits_no_nul front (refl, exponent_no_nul more)
float_no_nul (fraction front behind more) = digits_no_nul front (refl, digits_no_nul behind (exponent_no_nul more))
float_no_nul (power front more) = digits_no_nul front (exponent_no_nul more)
float_no_nul (point_first behind more) = (refl, digits_no_nul behind (exponent_no_nul more))

escape_no_nul : {bytes : List ℕ} → IsEscape bytes → NoNul bytes
escape_no_nul (letter {b} is) = (escape_is b is, tt)
escape_no_nul (one_hex {x} {a} is all) = (hex_mark_is x is, all_no_nul is_hex_digit hex_is (a ∷ []) all)
escape_no_nul (two_hex {x} {a} {b} is all) = (hex_mark_is x is, all_no_nul is_hex_digit hex_is (a ∷ (b ∷ [])) all)
escape_no_nul (one_octal {a} all) = all_no_nul is_octal_digit octal_is (a ∷ []) all
escape_no_nul (two_octal {a} {b} all) = all_no_nul is_octal_digit octal_is (a ∷ (b ∷ [])) all
escape_no_nul (three_octal {a} {b} {c} all) = all_no_nul is_octal_digit octal_is (a ∷ (b ∷ (c ∷ []))) all
escape_no_nul (short_unicode {a} {b} {c} {d} all) =
    (refl, all_no_nul is_hex_digit hex_is (a ∷ (b ∷ (c ∷ (d ∷ [])))) all)
escape_no_nul (long_unicode {a} {b} {c} {d} {e} all) =
    (refl, (refl, (refl, (refl, all_no_nul is_hex_digit hex_is (a ∷ (b ∷ (c ∷ (d ∷ (e ∷ []))))) all))))
escape_no_nul (last_unicode {a} {b} {c} {d} all) =
    (refl, (refl, (refl, (refl, (refl, all_no_nul is_hex_digit hex_is (a ∷ (b ∷ (c ∷ (d ∷ [])))) all)))))

literal_no_nul : (quote : ℕ) → is_quote quote ≡ true → {bytes : List ℕ} → EndsLiteral quote bytes → NoNul bytes
literal_no_nul quote is close = (quote_is quote is, tt)
literal_no_nul quote is (character {b} plain more) = (plain_is quote b plain, literal_no_nul quote is more)
literal_no_nul quote is (escape {letters} {others} escaped more) =
    (refl, append_no_nul letters others (escape_no_nul escaped) (literal_no_nul quote is more))

token_no_nul : {kind : TokenKind} {word : List ℕ} → Spells kind word → NoNul word
token_no_nul (identifier {b} {others} first all) = (letter_is b first, all_no_nul is_word word_is others all)
token_no_nul (integer is) = integer_no_nul is
token_no_nul (float is) = float_no_nul is
token_no_nul (literal {quote} is more) = (quote_is quote is, literal_no_nul quote is more)
token_no_nul (sign {b} {k} is) = (sign_is b k is, tt)

-- ---- where a text that lexes has a NUL

-- a byte is in a front, or behind it
in_front : (front rest : List ℕ) (at : ℕ) → at < length front → slice_get (front ++ rest) at ≡ slice_get front at
in_front [] rest at less = absurd (omega arith)
in_front (b ∷ front) rest zero less = refl
in_front (b ∷ front) rest (suc at) less = in_front front rest at (omega arith)

behind_front : (front rest : List ℕ) (at : ℕ) → length front ≤ at
    → slice_get (front ++ rest) at ≡ slice_get rest (at - length front)
behind_front [] rest at less = ap (slice_get rest) (none_less at)
  where
    none_less : (n : ℕ) → n ≡ n - 0
    none_less n = omega arith
behind_front (b ∷ front) rest zero less = absurd (omega arith)
behind_front (b ∷ front) rest (suc at) less = behind_front front rest at (omega arith) ∙ ap (slice_get rest) both_less
  where
    both_less : at - length front ≡ suc at - suc (length front)
    both_less = omega arith

take_past : (front rest : List ℕ) (at : ℕ) → length front ≤ at
    → take at (front ++ rest) ≡ front ++ take (at - length front) rest
take_past [] rest at less = ap (λ n. take n rest) (none_less at)
  where
    none_less : (n : ℕ) → n ≡ n - 0
    none_less n = omega arith
take_past (b ∷ front) rest zero less = absurd (omega arith)
take_past (b ∷ front) rest (suc at) less =
    ap (λ l. b ∷ l) (take_past front rest at (omega arith) ∙ ap (λ n. front ++ take n rest) both_less)
  where
    both_less : at - length front ≡ suc at - suc (length front)
    both_less = omega arith

drop_past : (front rest : List ℕ) (at : ℕ) → length front ≤ at
    → drop at (front ++ rest) ≡ drop (at - length front) rest
drop_past [] rest at less = ap (λ n. drop n rest) (none_less at)
  where
    none_less : (n : ℕ) → n ≡ n - 0
    none_less n = omega arith
drop_past (b ∷ front) rest zero less = absurd (omega arith)
drop_past (b ∷ front) rest (suc at) less =
    drop_past front rest at (omega arith) ∙ ap (λ n. drop n rest) both_less
  where
    both_less : at - length front ≡ suc at - suc (length front)
    both_less = omega arith

one_comment_more : (first : Comment) (comments : List Comment) (at : ℕ) → IsInComment comments at
    → IsInComment (first ∷ comments) at
one_comment_more first comments at is = record {
  comment = is.comment;
  listed = (suc is.listed.0, omega (arith, is.listed.1), is.listed.2);
  begun = is.begun;
  before_end = is.before_end;
}

nul_in : {state : Where} {place : ℕ} {bytes : List ℕ} {tokens : List Token} {comments : List Comment}
    → LexesFrom state place bytes tokens comments → (at : ℕ) → slice_get bytes at ≡ Some 0
    → IsInComment comments (place + at)
nul_in at_end at is = absurd cc
nul_in (blank {at = place} {b} {rest} {tokens} {comments} blank_b lexes) zero is =
    let zero_is : b ≡ 0 = cc in absurd (false≢true (sym (blank_is b blank_b) ∙ ap (λ n. nat_eq n 0) zero_is))
nul_in (blank {at = place} {b} {rest} {tokens} {comments} blank_b lexes) (suc at) is =
    subst (IsInComment comments) (omega arith) (nul_in lexes at is)
nul_in (comment {at = place} {k} {word} {rest} {tokens} {comments} is_comment lexes) at is =
    elim (cases_lt at (length word)) [
      | inl less ↦ record {
        comment = record { kind = k; span = part place (length word) };
        listed = (0, omega arith, refl);
        begun = omega arith;
        before_end = omega (arith, less);
      }
      | inr past ↦ one_comment_more (record { kind = k; span = part place (length word) }) comments (place + at)
          (subst (IsInComment comments) (omega (arith, past))
          (nul_in lexes (at - length word) (sym (behind_front word rest at past) ∙ is)))
    ]
nul_in (odd {place = state} {at = place} {b} {rest} {tokens} {comments} odd_b lexes) zero is =
    let zero_is : b ≡ 0 = cc in absurd (false≢true (sym (odd_high state b odd_b) ∙ ap (λ n. nat_eq n 0) zero_is))
nul_in (odd {at = place} {b} {rest} {tokens} {comments} odd_b lexes) (suc at) is =
    subst (IsInComment comments) (omega arith) (nul_in lexes at is)
nul_in (token {at = place} {k} {word} {rest} {tokens} {comments} is_token lexes) at is =
    elim (cases_lt at (length word)) [
      | inl less ↦ absurd
          (no_nul_at word (token_no_nul is_token.spelled) at (sym (in_front word rest at less) ∙ is))
      | inr past ↦ subst (IsInComment comments) (omega (arith, past))
          (nul_in lexes (at - length word) (sym (behind_front word rest at past) ∙ is))
    ]

nul_in_text : {hashes : Hashes} {text : List ℕ} {tokens : List Token} {comments : List Comment}
    → LexesWith hashes text tokens comments
    → (at : ℕ) → slice_get text at ≡ Some 0 → IsInComment comments at
nul_in_text (unmarked {text} {tokens} {comments} lexes) at is =
    subst (IsInComment comments) (omega arith) (nul_in lexes at is)
nul_in_text (marked lexes) zero is = absurd cc
nul_in_text (marked lexes) (suc zero) is = absurd cc
nul_in_text (marked lexes) (suc (suc zero)) is = absurd cc
nul_in_text (marked {rest} {tokens} {comments} lexes) (suc (suc (suc at))) is =
    subst (IsInComment comments) (omega arith) (nul_in lexes at is)

-- ---- where another byte is read

front_nul : (front bytes text : List ℕ) → ((at : ℕ) → (SameAt bytes text at → ⊥) → slice_get text at ≡ Some 0)
    → (at : ℕ) → (SameAt (front ++ bytes) (front ++ text) at → ⊥) → slice_get (front ++ text) at ≡ Some 0
front_nul [] bytes text rest at other = rest at other
front_nul (b ∷ front) bytes text rest zero other = absurd (other refl)
front_nul (b ∷ front) bytes text rest (suc at) other = front_nul front bytes text rest at other

other_is_nul : {bytes text : List ℕ} → Reads bytes text → (at : ℕ) → (SameAt bytes text at → ⊥)
    → slice_get text at ≡ Some 0
other_is_nul none_read at other = absurd (other refl)
other_is_nul (well_formed c {bytes} {text} known reads) at other =
    front_nul (encode_utf8 c) bytes text (other_is_nul reads) at other
other_is_nul (ill_formed none reads) zero other = refl
other_is_nul (ill_formed none reads) (suc at) other = other_is_nul reads at other

-- ---- bytes that are read as they are from a byte on that isn't UTF-8 are no text

char_starts : (b : ℕ) (bytes : List ℕ) → StartsWithNoChar (b ∷ bytes) → IsUtf8 (b ∷ bytes) → ⊥
char_starts b bytes none utf8 = by utf8.0 utf8.1.0 utf8.1.1
  where
    by : (cs : List ℕ) → scalars cs ≡ true → encodes cs ≡ b ∷ bytes → ⊥
    by [] ok e = absurd cc
    by (c ∷ cs) ok e = none c (encodes cs) (first_passes (scalar c) (scalars cs) ok) (sym e)

front_no_text : (front bytes text : List ℕ) → ((others : List ℕ) → IsUtf8 (front ++ others) → IsUtf8 others)
    → ((at : ℕ) → (SameAt bytes text at → ⊥) → IsUtf8 (take at text ++ drop at bytes) → ⊥)
    → (at : ℕ) → (SameAt (front ++ bytes) (front ++ text) at → ⊥)
    → IsUtf8 (take at (front ++ text) ++ drop at (front ++ bytes)) → ⊥
front_no_text front bytes text behind rest at other utf8 = elim (cases_lt at (length front)) [
  | inl less ↦ other (in_front front text at less ∙ sym (in_front front bytes at less))
  | inr past ↦ rest (at - length front)
      (λ same. other (behind_front front text at past ∙ (same ∙ sym (behind_front front bytes at past))))
      (behind (take (at - length front) text ++ drop (at - length front) bytes)
      (subst IsUtf8
      (ap (λ l. l ++ drop at (front ++ bytes)) (take_past front text at past)
      ∙ (ap (λ l. (front ++ take (at - length front) text) ++ l) (drop_past front bytes at past)
      ∙ append_assoc front (take (at - length front) text) (drop (at - length front) bytes)))
      utf8))
]

no_text : {bytes text : List ℕ} → Reads bytes text → (at : ℕ) → (SameAt bytes text at → ⊥)
    → IsUtf8 (take at text ++ drop at bytes) → ⊥
unfolding encode
no_text none_read at other utf8 = other refl
no_text (well_formed c {bytes} {text} known reads) at other utf8 =
    front_no_text (encode_utf8 c) bytes text
    (λ others is. IsUtf8-past_char (encode_utf8 c ++ others) others c is refl) (no_text reads) at
    other utf8
no_text (ill_formed {byte} {bytes} {text} none reads) zero other utf8 = char_starts byte bytes none utf8
no_text (ill_formed {byte} {bytes} {text} none reads) (suc at) other utf8 =
    no_text reads at other
    (IsUtf8-past_char (0 ∷ (take at text ++ drop at bytes)) (take at text ++ drop at bytes) 0 utf8 refl)

pub others_in_comments : OtherBytesAreInComments
others_in_comments hashes bytes text tokens comments (in_comments short reads same) utf8 lexes at other =
    nul_in_text lexes at (other_is_nul reads at other)
others_in_comments hashes bytes text tokens comments (outside read place short reads first differs) utf8 lexes at other =
    absurd (no_text reads place differs utf8)
others_in_comments hashes bytes text tokens comments (too_long long) utf8 lexes at other = absurd (other refl)

-- ---- bytes that are UTF-8

reads_same : {bytes text : List ℕ} → Reads bytes text → IsUtf8 bytes → text ≡ bytes
reads_same none_read utf8 = refl
reads_same (well_formed c {bytes} {text} known reads) utf8 =
    ap (λ l. encode_utf8 c ++ l)
    (reads_same reads (IsUtf8-past_char (encode_utf8 c ++ bytes) bytes c utf8 refl))
reads_same (ill_formed {byte} {bytes} {text} none reads) utf8 = absurd (char_starts byte bytes none utf8)

pub utf8_as_it_is : Utf8IsReadAsItIs
utf8_as_it_is bytes text (in_comments short reads same) utf8 = reads_same reads utf8
utf8_as_it_is bytes text (outside read place short reads first differs) utf8 =
    absurd (differs (ap (λ (l : List ℕ). slice_get l place) (reads_same reads utf8)))
utf8_as_it_is bytes text (too_long long) utf8 = refl
