use Rattle.std.proofs.Common.{◌≡◌, ℕ, suc, ◌+◌, ◌<◌, true, false, ◌||◌, ◌&&◌, nat_eq, Some, None, Ok, Err, List, [], ◌∷◌, ◌++◌}
use Rattle.std.proofs.Common.{length, refl, ◌∙◌, arith, eqb-true}
use Rattle.std.proofs.lemmas.Bool.Decides.{nat_tests}
use Rattle.proto_lex.specs.Bytes.{is_blank, is_letter, is_digit, is_word, is_quote, starts}
use Rattle.proto_lex.specs.Numbers.{IsInteger, decimal, octal, hexadecimal, IsFloat, whole, fraction, power}
use Rattle.proto_lex.specs.Numbers.{point_first, run_of, begins_number}
use Rattle.proto_lex.specs.Comments.{IsComment, line, block}
use Rattle.proto_lex.specs.Lexes.{sign_kind, Spells, identifier, integer, float, literal, sign, IsWhole}
use Rattle.proto_lex.specs.Reading.{◌>>=◌, is_in_line, token, number_at, literal_at, slash_at, piece_at}
use Rattle.proto_lex.specs.declared.fault.LexFault.TheVariants.{BadByte}
use Rattle.proto_lex.specs.declared.lexer.piece.PieceKind.{PieceKind}
use Rattle.proto_lex.specs.declared.lexer.piece.PieceKind.TheVariants as piece
use Rattle.proto_lex.specs.declared.token.TokenKind.{TokenKind}
use Rattle.proto_lex.specs.declared.token.TokenKind.TheVariants as kind
use Rattle.proto_lex.specs.declared.token.CommentKind.{CommentKind}
use Rattle.proto_lex.proofs.ReadingTestLemmas.{both, either}
use Rattle.proto_lex.proofs.ReadingPrefixLemmas.{prefix_exact, one_more}
use Rattle.proto_lex.proofs.ByteLemmas.{letter_not_blank, digit_not_blank, digit_not_letter, quote_not_blank}
use Rattle.proto_lex.proofs.ByteLemmas.{quote_not_letter, quote_not_digit, quote_not_point, nonzero_is_digit}
use Rattle.proto_lex.proofs.NumberLemmas.{integer_exact, float_exact, float_no_integer, digits_start}
use Rattle.proto_lex.proofs.LiteralExact.{literal_exact}
use Rattle.proto_lex.proofs.CommentLemmas.{block_exact}
use Rattle.proto_lex.proofs.PieceFound.{Stands, sign_cases}

-- What stands at a place is read there.

-- numbers

digit_begins : (bytes : List ℕ) → starts is_digit bytes ≡ true → begins_number bytes ≡ true
digit_begins [] t = t
digit_begins (b ∷ others) t = rw t refl

pub integer_begins : {word : List ℕ} → IsInteger word → begins_number word ≡ true
integer_begins (decimal {d} h hs) = rw (nonzero_is_digit d h) refl
integer_begins (octal h) = refl
integer_begins (hexadecimal t h) = refl

pub float_begins : {word : List ℕ} → IsFloat word → begins_number word ≡ true
float_begins (whole {bytes} d x) = digit_begins bytes (digits_start d)
float_begins (fraction {bytes} d e x) = digit_begins bytes (digits_start d)
float_begins (power {bytes} d x) = digit_begins bytes (digits_start d)
float_begins (point_first d x) = digits_start d

starts-append : (word rest : List ℕ) → starts is_digit word ≡ true → starts is_digit (word ++ rest) ≡ true
starts-append [] rest t = absurd cc
starts-append (b ∷ others) rest t = t

pub begins_number-append : (word rest : List ℕ) → begins_number word ≡ true → begins_number (word ++ rest) ≡ true
begins_number-append [] rest t = absurd cc
begins_number-append (b ∷ others) rest t =
    either (is_digit b) (nat_eq b 46 && starts is_digit others) t (λ h. rw h refl) (λ n h.
    both (nat_eq b 46) (starts is_digit others) h (λ p s. rw (n, p, starts-append others rest s) refl))

pub number_place : (at : ℕ) (bytes : List ℕ) → begins_number bytes ≡ true → piece_at at bytes ≡ number_at at bytes
unfolding piece_at
number_place at [] t = absurd cc
number_place at (b ∷ others) t =
    either (is_digit b) (nat_eq b 46 && starts is_digit others) t
    (λ h. rw (digit_not_blank b h, digit_not_letter b h, h) refl) (λ _ h.
    both (nat_eq b 46) (starts is_digit others) h (λ p s. rw (eqb-true b 46 p, s) refl))

integer_at : (at : ℕ) (word rest : List ℕ) → IsInteger word → run_of (word ++ rest) ≡ word
    → number_at at (word ++ rest) ≡ Ok (token kind.Integer (length word))
unfolding number_at
integer_at at word rest i w = rw (w, integer_exact i) refl

float_at : (at : ℕ) (word rest : List ℕ) → IsFloat word → run_of (word ++ rest) ≡ word
    → number_at at (word ++ rest) ≡ Ok (token kind.Float (length word))
unfolding number_at
float_at at word rest f w = rw (w, float_no_integer f, float_exact f) refl

-- signs

slash_exact : (at : ℕ) (rest : List ℕ) → starts (λ b. nat_eq b 47 || nat_eq b 42) rest ≡ false
    → slash_at at rest ≡ Ok (token kind.Slash 1)
slash_exact at [] h = refl
slash_exact at (c ∷ rest) h = rw (not_slash c h, not_star c h) refl
  where
    not_slash : (c : ℕ) → (nat_eq c 47 || nat_eq c 42) ≡ false → nat_eq 47 c ≡ false
    not_slash c h = grind (arith, nat_tests)

    not_star : (c : ℕ) → (nat_eq c 47 || nat_eq c 42) ≡ false → nat_eq 42 c ≡ false
    not_star c h = grind (arith, nat_tests)

sign_exact : (at b : ℕ) (k : TokenKind) (rest : List ℕ) → sign_kind b ≡ Some k → IsWhole k (b ∷ []) rest
    → piece_at at (b ∷ rest) ≡ Ok (token k 1)
unfolding piece_at
sign_exact at b k rest e =
    sign_cases (λ c j. IsWhole j (c ∷ []) rest → piece_at at (c ∷ rest) ≡ Ok (token j 1)) b k e
    (λ _. refl) (λ _. refl) (λ _. refl) (λ _. refl) (λ _. refl) (λ _. refl) (λ _. refl) (λ _. refl) (λ _. refl)
    (λ _. refl)
    (λ _. refl) (λ w. rw w refl) (λ _. refl) (λ _. refl) (λ _. refl) (λ w. slash_exact at rest w)

-- strings

quote_no_number : (b : ℕ) (others : List ℕ) → is_quote b ≡ true → begins_number (b ∷ others) ≡ false
quote_no_number b others q = rw (quote_not_digit b q, quote_not_point b q) refl

pub quote_place : (at b : ℕ) (others : List ℕ) → is_quote b ≡ true
    → piece_at at (b ∷ others) ≡ (literal_at b at 0 1 others >>= λ len. Ok (token kind.StringLiteral len))
unfolding piece_at
quote_place at b others q = rw (quote_not_blank b q, quote_not_letter b q, quote_no_number b others q, q) refl

pub string_exact : (at b : ℕ) (others rest : List ℕ) → is_quote b ≡ true
    → (literal_at b at 0 1 (others ++ rest) ≡ Ok (1 + length others))
    → piece_at at (b ∷ (others ++ rest)) ≡ Ok (token kind.StringLiteral (suc (length others)))
string_exact at b others rest q e = quote_place at b (others ++ rest) q ∙ rw (e, one_more (length others)) refl

-- all tokens

token_exact : (at : ℕ) {k : TokenKind} {word : List ℕ} (rest : List ℕ) → Spells k word → IsWhole k word rest
    → piece_at at (word ++ rest) ≡ Ok (token k (length word))
unfolding piece_at
token_exact at rest (identifier {b} {others} t h) w =
    rw (letter_not_blank b t, t, prefix_exact is_word others rest h w, one_more (length others)) refl
token_exact at rest (integer {word} i) w =
    number_place at (word ++ rest) (begins_number-append word rest (integer_begins i)) ∙ integer_at at word rest i w
token_exact at rest (float {word} f) w =
    number_place at (word ++ rest) (begins_number-append word rest (float_begins f)) ∙ float_at at word rest f w
token_exact at rest (literal {quote} {others} q r) w =
    string_exact at quote others rest q (literal_exact quote at q r 1 rest)
token_exact at rest (sign {b} {k} e) w = sign_exact at b k rest e w

comment_exact : (at : ℕ) {k : CommentKind} {word rest : List ℕ} → IsComment k word rest
    → piece_at at (word ++ rest) ≡ Ok (record { kind = piece.Comment k; len = length word })
unfolding piece_at
comment_exact at (line {inside} {rest} h s) =
    let n : 1 + (1 + length inside) ≡ length (47 ∷ (47 ∷ inside)) = omega arith in
    rw (prefix_exact is_in_line inside rest h s, n) refl
comment_exact at (block {inside} {rest} r) =
    let n : 2 + length inside ≡ length (47 ∷ (42 ∷ inside)) = omega arith in
    rw (block_exact 2 rest r, n) refl

pub piece_exact : (at : ℕ) (k : PieceKind) (word rest : List ℕ) → Stands k word rest
    → piece_at at (word ++ rest) ≡ Ok (record { kind = k; len = length word })
unfolding piece_at
piece_exact at piece.Blank word rest s = rw (s.1, s.2) refl
piece_exact at piece.Odd word rest s = absurd s
piece_exact at (piece.Comment k) word rest s = comment_exact at s
piece_exact at (piece.Token k) word rest s = token_exact at rest s.spelled s.whole

-- no piece is empty
pub begun_some : (word : List ℕ) → begins_number word ≡ true → 0 < length word
begun_some [] t = absurd cc
begun_some (b ∷ others) t = omega arith

spelled_some : {k : TokenKind} {word : List ℕ} → Spells k word → 0 < length word
spelled_some (identifier t h) = omega arith
spelled_some (integer {word} i) = begun_some word (integer_begins i)
spelled_some (float {word} f) = begun_some word (float_begins f)
spelled_some (literal q r) = omega arith
spelled_some (sign e) = omega arith

comment_some : {k : CommentKind} {word rest : List ℕ} → IsComment k word rest → 0 < length word
comment_some (line h s) = omega arith
comment_some (block r) = omega arith

pub stands_some : (k : PieceKind) (word rest : List ℕ) → Stands k word rest → 0 < length word
stands_some piece.Blank word rest s = rw s.1 (omega arith)
stands_some piece.Odd word rest s = absurd s
stands_some (piece.Comment k) word rest s = comment_some s
stands_some (piece.Token k) word rest s = spelled_some s.spelled

-- a character that begins nothing

no_sign : (b c : ℕ) → sign_kind b ≡ None → (sign_kind c ≡ None → ⊥) → nat_eq b c ≡ false
no_sign b c e some =
    elim (nat_eq b c) as (λ t. nat_eq b c ≡ t → t ≡ false) [
      | true ↦ λ t. absurd (some (rw (eqb-true b c t) at e))
      | false ↦ λ t. refl
    ] refl

pub unknown_exact : (at b : ℕ) (others : List ℕ) → is_blank b ≡ false → is_letter b ≡ false → is_digit b ≡ false
    → is_quote b ≡ false → sign_kind b ≡ None → piece_at at (b ∷ others) ≡ Err (BadByte at)
unfolding piece_at
unknown_exact at b others nb nl nd nq e =
    let point : nat_eq b 46 ≡ false = no_sign b 46 e (λ some. cc) in
    let slash : nat_eq b 47 ≡ false = no_sign b 47 e (λ some. cc) in
    rw (e, nb, nl, nd, point, nq, slash) refl
