-- Single tokens: what is read of them, and what tests of them exclude.
use Rattle.std.proofs.Common.{◌≡◌, ℕ, ◌<◌, Bool, true, false, Ok, Err, List, [], ◌∷◌, length, refl, sym}
use Rattle.std.proofs.Common.{subst}
use Rattle.std.proofs.Common.{arith, bytes_eq}
use Rattle.std.proofs.lemmas.Slice.Eq.{bytes_eq-Decides}
use Rattle.std.proofs.lemmas.Bool.{not-false, and_parts}
use denote.Enum.Bare.{same_true}
use Rattle.proto_lex.specs.contracts.token.TokenKind.{the_type}
use Rattle.proto_lex.specs.declared.span.Span.{Span}
use Rattle.proto_lex.specs.declared.token.TokenKind.{TokenKind}
use Rattle.proto_lex.specs.declared.token.TokenKind.TheVariants.{Identifier, StringLiteral}
use Rattle.proto_grammar.specs.declared.fault.SyntaxFault.TheVariants.{ImportEscape, Grammar}
use Rattle.proto_grammar.specs.Lexeme.{Lexeme, Place, place_of}
use Rattle.proto_grammar.specs.Terminal.{is_kind, of_kind, is_word, is_plain_literal, others, first_is}
use Rattle.proto_grammar.specs.Terminal.{not_next}
use Rattle.proto_grammar.specs.Grammar.Repetition.{One}
use Rattle.proto_grammar.specs.Grammar.Repetition.One.{one}
use Rattle.proto_grammar.specs.Reading.Repetition.{token_that, plain_literal_at}
use Rattle.proto_grammar.proofs.RepetitionStepLemmas.{read_as, same_ok, guard_ok}
use Rattle.proto_lex.proofs.ReadingTestLemmas.{chosen}

token_found_by : {test : Lexeme → Bool} (left : List Lexeme) (end : ℕ) (x : Span × Place)
    → token_that test (place_of end left) ≡ Ok x → One test left x.0 x.1.left
unfolding token_that
token_found_by [] end x e = cc
token_found_by {test} (t ∷ rest) end x e =
    let g = guard_ok (test t) _ _ x e in
    subst (λ (y : Span × Place). One test (t ∷ rest) y.0 y.1.left) (same_ok _ x g.1) (one g.0)

pub token_found : {test : Lexeme → Bool} (tokens : Place) (x : Span × Place)
    → token_that test tokens ≡ Ok x → One test tokens.left x.0 x.1.left
token_found tokens x e = token_found_by tokens.left tokens.end x e

pub token_exact : {test : Lexeme → Bool} (end : ℕ) {a b : List Lexeme} {span : Span} → One test a span b
    → token_that test (place_of end a) ≡ Ok (span, place_of end b)
unfolding token_that
token_exact end (one e) = rw e refl

-- a token of which a test is known
pub next_found : {test : Lexeme → Bool} (tokens : List Lexeme) → first_is test tokens ≡ true
    → (span : Span) × One test tokens span (others tokens)
next_found [] e = cc
next_found (t ∷ rest) e = (t.span, one e)

pub one_next : {test : Lexeme → Bool} {a b : List Lexeme} {span : Span} → One test a span b → first_is test a ≡ true
one_next (one e) = e

pub one_others : {test : Lexeme → Bool} {a b : List Lexeme} {span : Span} → One test a span b → others a ≡ b
one_others (one e) = refl

pub one_shorter : {test : Lexeme → Bool} {a b : List Lexeme} {span : Span} → One test a span b → length b < length a
one_shorter (one e) = omega arith

-- a kind that passes for another is it
pub same_kind : (wanted kind : TokenKind) → is_kind wanted kind ≡ true → kind ≡ wanted
same_kind wanted kind is = same_true the_type tt kind wanted is

-- a token of one kind is of no other
pub other_kind : (kind other : TokenKind) (t : Lexeme) → is_kind other kind ≡ false → of_kind kind t ≡ true
    → of_kind other t ≡ false
other_kind kind other t differs is =
    subst (λ k. is_kind other k ≡ false) (sym (same_kind kind t.kind is)) differs

-- a token of another kind is no word
pub kind_no_word : (kind : TokenKind) (word : List ℕ) (t : Lexeme) → is_kind Identifier kind ≡ false
    → of_kind kind t ≡ true → is_word word t ≡ false
kind_no_word kind word t differs is = rw (other_kind kind Identifier t differs is) refl

-- a word is a token of no other kind
pub word_kind : (word : List ℕ) (t : Lexeme) → is_word word t ≡ true → of_kind Identifier t ≡ true
word_kind word t is = (and_parts (is_kind Identifier t.kind) (bytes_eq t.spelling word) is).0

-- a word is no other word
pub other_word : (word other : List ℕ) (t : Lexeme) → bytes_eq word other ≡ false → is_word word t ≡ true
    → is_word other t ≡ false
other_word word other t differs is =
    let both = and_parts (is_kind Identifier t.kind) (bytes_eq t.spelling word) is in
    let same : t.spelling ≡ word = (bytes_eq-Decides t.spelling word).0 both.1 in
    let other_differs : bytes_eq t.spelling other ≡ false = rw same differs in
    rw (both.0, other_differs) refl

-- the same of what stands next
pub next_other_kind : (kind other : TokenKind) (a : List Lexeme) → is_kind other kind ≡ false
    → first_is (of_kind kind) a ≡ true → first_is (of_kind other) a ≡ false
next_other_kind kind other [] differs is = refl
next_other_kind kind other (t ∷ rest) differs is = other_kind kind other t differs is

pub next_no_word : (kind : TokenKind) (word : List ℕ) (a : List Lexeme) → is_kind Identifier kind ≡ false
    → first_is (of_kind kind) a ≡ true → first_is (is_word word) a ≡ false
next_no_word kind word [] differs is = refl
next_no_word kind word (t ∷ rest) differs is = kind_no_word kind word t differs is

pub next_word_kind : (word : List ℕ) (a : List Lexeme) → first_is (is_word word) a ≡ true
    → first_is (of_kind Identifier) a ≡ true
next_word_kind word [] is = cc
next_word_kind word (t ∷ rest) is = word_kind word t is

pub next_other_word : (word other : List ℕ) (a : List Lexeme) → bytes_eq word other ≡ false
    → first_is (is_word word) a ≡ true → first_is (is_word other) a ≡ false
next_other_word word other [] differs is = refl
next_other_word word other (t ∷ rest) differs is = other_word word other t differs is

pub next_of : (kind : TokenKind) (a : List Lexeme) → not_next kind a ≡ false → first_is (of_kind kind) a ≡ true
next_of kind a e = not-false (first_is (of_kind kind) a) e

-- a literal without a `\\`
plain_found_by : (left : List Lexeme) (end : ℕ) (x : Span × Place) → plain_literal_at (place_of end left) ≡ Ok x
    → One is_plain_literal left x.0 x.1.left
unfolding plain_literal_at
plain_found_by [] end x e = cc
plain_found_by (t ∷ rest) end x e =
    chosen (is_plain_literal t) {z = Ok x} e
    (λ is read. subst (λ (y : Span × Place). One is_plain_literal (t ∷ rest) y.0 y.1.left) (same_ok _ x read) (one is))
    (λ not_plain read. chosen (of_kind StringLiteral t) {z = Ok x} read
    (λ string escaped. absurd (let no : Err (ImportEscape t.span.start) ≡ read_as x = escaped in cc))
    (λ no_string other. absurd (let no : Err (Grammar t.span.start) ≡ read_as x = other in cc)))

pub plain_found : (tokens : Place) (x : Span × Place) → plain_literal_at tokens ≡ Ok x
    → One is_plain_literal tokens.left x.0 x.1.left
plain_found tokens x e = plain_found_by tokens.left tokens.end x e

pub plain_exact : (end : ℕ) {a b : List Lexeme} {span : Span} → One is_plain_literal a span b
    → plain_literal_at (place_of end a) ≡ Ok (span, place_of end b)
unfolding plain_literal_at
plain_exact end (one e) = rw e refl
