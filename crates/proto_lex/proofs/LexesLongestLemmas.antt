use Rattle.std.proofs.Common.{◌≡◌, ℕ, suc, ◌+◌, ◌≤◌, Bool, true, false, not, cond, ◌&&◌, nat_eq, nat_le, Option, Some}
use Rattle.std.proofs.Common.{None, Ok, List, [], ◌∷◌, ◌++◌, length, refl, sym, ◌∙◌, ap, subst, arith, append_assoc}
use Rattle.std.proofs.lemmas.Bool.Decides.{nat_tests}
use Rattle.std.proofs.lemmas.List.{length-append}
use Rattle.std.specs.List.{list_all, prefix_len}
use Rattle.proto_lex.specs.Bytes.{is_letter, is_digit, is_octal_digit, is_hex_digit, is_word, is_plus_or_minus}
use Rattle.proto_lex.specs.Bytes.{is_exponent_mark, is_hex_mark, starts}
use Rattle.proto_lex.specs.Numbers.{IsInteger, decimal, octal, hexadecimal, Digits, digit, digits, IsExponentOrNone}
use Rattle.proto_lex.specs.Numbers.{no_exponent, unsigned, signed, IsFloat, whole, fraction, power, point_first}
use Rattle.proto_lex.specs.Numbers.{begins_hexadecimal, goes_on, run_after, run_of, begins_number}
use Rattle.proto_lex.specs.Lexes.{Spells, identifier, integer, float, literal, sign, IsToken}
use Rattle.proto_lex.specs.Reading.{number_kind, token, numbered, number_at, piece_at}
use Rattle.proto_lex.specs.declared.lexer.piece.Piece.{Piece}
use Rattle.proto_lex.specs.declared.lexer.piece.PieceKind.TheVariants as piece
use Rattle.proto_lex.specs.declared.token.TokenKind.{TokenKind}
use Rattle.proto_lex.specs.declared.token.TokenKind.TheVariants as kind
use Rattle.proto_lex.proofs.ReadingTestLemmas.{both, same_ok, err_not_ok}
use Rattle.proto_lex.proofs.ByteLemmas.{letter_not_blank}
use Rattle.proto_lex.proofs.LiteralExact.{literal_exact}
use Rattle.proto_lex.proofs.PiecesLemmas.{piece_bounds}
use Rattle.proto_lex.proofs.PieceExact.{begins_number-append, number_place, integer_begins, float_begins, string_exact}
use Rattle.proto_lex.proofs.PieceExact.{piece_exact}
use Rattle.proto_lex.proofs.NumberLemmas.{digits_start}

-- No longer spelling of a token stands at its place.

-- a run takes each letter, digit, `_` and `.`, whatever stands before it
run_more : (m : Bool) (last b : ℕ) (others : List ℕ) → goes_on m last b ≡ true
    → length (run_after m last (b ∷ others)) ≡ suc (length (run_after m b others))
run_more m last b others e = rw e refl

word_goes_on : (m : Bool) (last b : ℕ) → is_word b ≡ true → goes_on m last b ≡ true
word_goes_on m last b t = rw t refl

digit_goes_on : (m : Bool) (last b : ℕ) → is_digit b ≡ true → goes_on m last b ≡ true
digit_goes_on m last b t = word_goes_on m last b (digit_word b t)
  where
    digit_word : (b : ℕ) → is_digit b ≡ true → is_word b ≡ true
    digit_word b t = grind (arith, nat_tests)

mark_goes_on : (m : Bool) (last b : ℕ) → is_exponent_mark b ≡ true → goes_on m last b ≡ true
mark_goes_on m last b t = word_goes_on m last b (mark_word b t)
  where
    mark_word : (b : ℕ) → is_exponent_mark b ≡ true → is_word b ≡ true
    mark_word b t = grind (arith, nat_tests)

sign_goes_on : (e s : ℕ) → is_exponent_mark e ≡ true → is_plus_or_minus s ≡ true → goes_on true e s ≡ true
sign_goes_on e s t p = grind (arith, nat_tests)

-- a run takes at least so many of these bytes, whatever stands before them and after them
abbrev Takes : Bool → List ℕ → Type 0
Takes m bytes = (last : ℕ) (tail : List ℕ) → length bytes ≤ length (run_after m last (bytes ++ tail))

takes_none : (m : Bool) → Takes m []
takes_none m = λ last tail. omega arith

takes_more : (m : Bool) (b : ℕ) (others : List ℕ) → ((last : ℕ) → goes_on m last b ≡ true) → Takes m others
    → Takes m (b ∷ others)
takes_more m b others e k = λ last tail. omega (arith, run_more m last b (others ++ tail) (e last), k b tail)

takes_words : (m : Bool) (bytes : List ℕ) → list_all is_word bytes ≡ true → Takes m bytes
takes_words m [] t = takes_none m
takes_words m (b ∷ others) t =
    both (is_word b) (list_all is_word others) t
    (λ u ts. takes_more m b others (λ last. word_goes_on m last b u) (takes_words m others ts))

takes_digits : (m : Bool) {a b : List ℕ} → Digits a b → Takes m b → Takes m a
takes_digits m (digit {d} {others} h) k = takes_more m d others (λ last. digit_goes_on m last d h) k
takes_digits m (digits {d} {ds} h r) k = takes_more m d ds (λ last. digit_goes_on m last d h) (takes_digits m r k)

takes_exponent : {bytes : List ℕ} → IsExponentOrNone bytes → Takes true bytes
takes_exponent no_exponent = takes_none true
takes_exponent (unsigned {e} {ds} h r) =
    takes_more true e ds (λ last. mark_goes_on true last e h) (takes_digits true r (takes_none true))
takes_exponent (signed {e} {s} {ds} h p r) = λ last tail.
    omega (
      arith,
      run_more true last e (s ∷ (ds ++ tail)) (mark_goes_on true last e h),
      run_more true e s (ds ++ tail) (sign_goes_on e s h p),
      takes_digits true r (takes_none true) s tail,
    )

point_goes_on : (m : Bool) (last : ℕ) → goes_on m last 46 ≡ true
point_goes_on m last = refl

takes_float : {word : List ℕ} → IsFloat word → Takes true word
takes_float (whole {bytes} {exponent} d x) =
    takes_digits true d (takes_more true 46 exponent (point_goes_on true) (takes_exponent x))
takes_float (fraction {bytes} {ds} d e x) =
    takes_digits true d (takes_more true 46 ds (point_goes_on true) (takes_digits true e (takes_exponent x)))
takes_float (power d x) = takes_digits true d (takes_exponent x)
takes_float (point_first {ds} d x) = takes_more true 46 ds (point_goes_on true) (takes_digits true d (takes_exponent x))

digits_words : (test : ℕ → Bool) (bytes : List ℕ) → ((b : ℕ) → test b ≡ true → is_word b ≡ true)
    → list_all test bytes ≡ true → list_all is_word bytes ≡ true
digits_words test [] k t = refl
digits_words test (b ∷ others) k t =
    both (test b) (list_all test others) t (λ u ts. rw (k b u, digits_words test others k ts) refl)

nonzero_word : (b : ℕ) → (nat_le 49 b && nat_le b 57) ≡ true → is_word b ≡ true
nonzero_word b t = grind (arith, nat_tests)

digit_word : (b : ℕ) → is_digit b ≡ true → is_word b ≡ true
digit_word b t = grind (arith, nat_tests)

octal_word : (b : ℕ) → is_octal_digit b ≡ true → is_word b ≡ true
octal_word b t = grind (arith, nat_tests)

hex_word : (b : ℕ) → is_hex_digit b ≡ true → is_word b ≡ true
hex_word b t = grind (arith, nat_tests)

hex_mark_word : (b : ℕ) → is_hex_mark b ≡ true → is_word b ≡ true
hex_mark_word b t = grind (arith, nat_tests)

integer_words : {word : List ℕ} → IsInteger word → list_all is_word word ≡ true
integer_words (decimal {d} {ds} h hs) = rw (nonzero_word d h, digits_words is_digit ds digit_word hs) refl
integer_words (octal {ds} h) = digits_words is_octal_digit ds octal_word h
integer_words (hexadecimal {x} {d} {ds} t h) = rw (hex_mark_word x t) (digits_words is_hex_digit (d ∷ ds) hex_word h)

-- a floating-point number doesn't begin as a hexadecimal one
hex_tail : (others tail : List ℕ) → starts is_digit others ≡ true → starts is_hex_mark (others ++ tail) ≡ false
hex_tail [] tail t = absurd cc
hex_tail (b ∷ others) tail t = no_mark b t
  where
    no_mark : (b : ℕ) → is_digit b ≡ true → is_hex_mark b ≡ false
    no_mark b t = grind (arith, nat_tests)

and_false : (a b : Bool) → b ≡ false → (a && b) ≡ false
and_false true b e = e
and_false false b e = refl

digits_no_hex : {a b : List ℕ} (tail : List ℕ) → Digits a b → starts is_hex_mark (b ++ tail) ≡ false
    → begins_hexadecimal (a ++ tail) ≡ false
digits_no_hex tail (digit {d} {others} h) s = and_false (nat_eq d 48) (starts is_hex_mark (others ++ tail)) s
digits_no_hex tail (digits {d} {ds} h r) s =
    and_false (nat_eq d 48) (starts is_hex_mark (ds ++ tail)) (hex_tail ds tail (digits_start r))

mark_no_hex : (e : ℕ) → is_exponent_mark e ≡ true → is_hex_mark e ≡ false
mark_no_hex e t = grind (arith, nat_tests)

exponent_no_hex : {bytes : List ℕ} (e : ℕ) (others tail : List ℕ) → bytes ≡ e ∷ others → IsExponentOrNone bytes
    → starts is_hex_mark (bytes ++ tail) ≡ false
exponent_no_hex e others tail q no_exponent = absurd cc
exponent_no_hex e others tail q (unsigned {e = d} h r) = mark_no_hex d h
exponent_no_hex e others tail q (signed {e = d} h p r) = mark_no_hex d h

float_no_hex : {word : List ℕ} (tail : List ℕ) → IsFloat word → begins_hexadecimal (word ++ tail) ≡ false
float_no_hex tail (whole d x) = digits_no_hex tail d refl
float_no_hex tail (fraction d e x) = digits_no_hex tail d refl
float_no_hex tail (power {bytes} {exponent} {e} d x) = digits_no_hex tail d (exponent_no_hex e exponent tail refl x)
float_no_hex tail (point_first d x) = refl

-- the run of a number is as long as its spelling at least
run_long : (m : Bool) (word tail : List ℕ) → not (begins_hexadecimal (word ++ tail)) ≡ m → Takes m word
    → length word ≤ length (run_of (word ++ tail))
run_long m [] tail e k = omega arith
run_long m (b ∷ others) tail e k =
    let most = run_most m 0 b (others ++ tail) in
    let here : length (run_of (b ∷ (others ++ tail))) ≡ suc (length (run_after m b (others ++ tail))) =
    ap (λ n. suc (length (run_after n b (others ++ tail)))) e in
    omega (arith, here, most, k 0 tail)
  where
    run_most : (m : Bool) (last b : ℕ) (xs : List ℕ)
        → length (run_after m last (b ∷ xs)) ≤ suc (length (run_after m b xs))
    run_most m last b xs = elim (goes_on m last b) as
        (λ t. length (cond t (b ∷ run_after m b xs) []) ≤ suc (length (run_after m b xs))) [
          | true ↦ omega arith
          | false ↦ omega arith
        ]

numbered_len : (at : ℕ) (o : Option TokenKind) (len : ℕ) (p : Piece) → numbered at o len ≡ Ok p → p.len ≡ len
numbered_len at None len p e = err_not_ok e
numbered_len at (Some k) len p e = ap (λ (q : Piece). q.len) (sym (same_ok (token k len) p (Ok (token k len)) refl e))

number_len : (at : ℕ) (bytes : List ℕ) (p : Piece) → number_at at bytes ≡ Ok p → p.len ≡ length (run_of bytes)
unfolding number_at
number_len at bytes p e = numbered_len at (number_kind (run_of bytes)) (length (run_of bytes)) p e

number_longest : (at : ℕ) (m : Bool) (word tail : List ℕ) (p : Piece) → begins_number word ≡ true
    → not (begins_hexadecimal (word ++ tail)) ≡ m → Takes m word
    → piece_at at (word ++ tail) ≡ Ok p → length word ≤ p.len
number_longest at m word tail p t e k q =
    omega (
      arith,
      run_long m word tail e k,
      number_len at (word ++ tail) p (sym (number_place at (word ++ tail) (begins_number-append word tail t)) ∙ q),
    )

prefix_long : (test : ℕ → Bool) (word tail : List ℕ) → list_all test word ≡ true
    → length word ≤ prefix_len test (word ++ tail)
prefix_long test [] tail t = omega arith
prefix_long test (b ∷ others) tail t =
    both (test b) (list_all test others) t (λ u ts. rw u (omega (arith, prefix_long test others tail ts)))

identifier_len : (at b : ℕ) (others : List ℕ) (p : Piece) → is_letter b ≡ true → piece_at at (b ∷ others) ≡ Ok p
    → p.len ≡ 1 + prefix_len is_word others
unfolding piece_at
identifier_len at b others p t e =
    let q : Piece = token kind.Identifier (1 + prefix_len is_word others) in
    ap (λ (r : Piece). r.len) (sym (same_ok q p (Ok q) refl (rw (letter_not_blank b t, t) at e)))

-- what is read at a place is as long as any spelling there
longest : (at : ℕ) {k : TokenKind} {word : List ℕ} (tail : List ℕ) (p : Piece) → Spells k word
    → piece_at at (word ++ tail) ≡ Ok p → length word ≤ p.len
longest at tail p (identifier {b} {others} t h) e =
    omega (arith, identifier_len at b (others ++ tail) p t e, prefix_long is_word others tail h)
longest at tail p (integer {word} i) e =
    number_longest at (not (begins_hexadecimal (word ++ tail))) word tail p (integer_begins i) refl
    (takes_words _ word (integer_words i)) e
longest at tail p (float {word} f) e =
    number_longest at true word tail p (float_begins f) (rw (float_no_hex tail f) refl) (takes_float f) e
longest at tail p (literal {quote} {others} q r) e =
    let s : Piece = token kind.StringLiteral (suc (length others)) in
    let same : s ≡ p = same_ok s p (piece_at at (quote ∷ (others ++ tail)))
    (string_exact at quote others tail q (literal_exact quote at q r 1 tail)) e in
    omega (arith, ap (λ (r : Piece). r.len) same)
longest at tail p (sign {b} t) e = omega (arith, (piece_bounds at (b ∷ tail) p e).0)

no_length : (more : List ℕ) → length more ≡ 0 → more ≡ []
no_length [] e = refl
no_length (b ∷ more) e = absurd (omega arith)

pub no_longer : (k other : TokenKind) (word rest more tail : List ℕ) → IsToken k word rest → rest ≡ more ++ tail
    → Spells other (word ++ more) → more ≡ []
no_longer k other word rest more tail t e s =
    let split : word ++ rest ≡ (word ++ more) ++ tail = ap (λ xs. word ++ xs) e ∙ sym (append_assoc word more tail) in
    let read = subst (λ (xs : List ℕ). piece_at 0 xs ≡ Ok (token k (length word))) split
    (piece_exact 0 (piece.Token k) word rest t) in
    no_length more (omega (arith, longest 0 tail (token k (length word)) s read, length-append word more))
