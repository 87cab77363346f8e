-- A name in small letters is as simple as the name, and an identifier where the name is one.
use Rattle.std.proofs.Common.{◌≡◌, sym, refl, ℕ, ◌==◌, Bool, true, false, not, List, []}
use Rattle.std.proofs.Common.{◌∷◌, arith}
use Rattle.std.specs.Char.{to_ascii_lowercase}
use Rattle.std.specs.List.{list_all}
use Rattle.std.proofs.lemmas.Bool.Decides.{nat_tests}
use Rattle.std.proofs.lemmas.List.{length-map}
use Rattle.std.proofs.lemmas.Bool.{and_parts}
use Rattle.proto_lex.specs.Bytes.{is_letter, is_word}
use Rattle.proto_lex.specs.Lexes.{Spells}
use Rattle.proto_lex.specs.Lexes.Spells.{sign, identifier}
use Rattle.proto_lex.specs.declared.token.TokenKind.{TokenKind}
use Rattle.proto_lex.specs.declared.token.TokenKind.TheVariants.{Identifier}
use Rattle.proto_lex.proofs.PieceFound.{sign_cases}
use Rattle.proto_decl.specs.Names.{IsSimple, small_letters}
use Rattle.basics.proofs.BoolLemmas.{never}

-- what holds of each byte and passes to its small letter holds of all small letters
all_small : (test : ℕ → Bool) → ((b : ℕ) → test b ≡ true → test (to_ascii_lowercase b) ≡ true) → (name : List ℕ)
    → list_all test name ≡ true → list_all test (small_letters name) ≡ true
all_small test passes [] e = refl
all_small test passes (b ∷ name) e = let p = and_parts (test b) (list_all test name) e in
    rw (passes b p.0, all_small test passes name p.1) refl

no_dot_small : (b : ℕ) → not (b == 46) ≡ true → not (to_ascii_lowercase b == 46) ≡ true
no_dot_small b e = grind (arith, nat_tests)

letter_small : (b : ℕ) → is_letter b ≡ true → is_letter (to_ascii_lowercase b) ≡ true
letter_small b e = grind (arith, nat_tests)

word_small : (b : ℕ) → is_word b ≡ true → is_word (to_ascii_lowercase b) ≡ true
word_small b e = grind (arith, nat_tests)

pub simple_small : (name : List ℕ) → IsSimple name → IsSimple (small_letters name)
simple_small name simple = record {
  some = omega (arith, simple.some, length-map name to_ascii_lowercase);
  no_dot = all_small (λ byte. not (byte == 46)) no_dot_small name simple.no_dot;
}

is_identifier : TokenKind → Bool
is_identifier Identifier = true
is_identifier _ = false

pub identifier_small : (name : List ℕ) → Spells Identifier name → Spells Identifier (small_letters name)
unfolding is_identifier
identifier_small name (identifier {b} {others} e f) =
    identifier (letter_small b e) (all_small is_word word_small others f)
identifier_small name (sign {b} {k} e) =
    never (sym (sign_cases (λ b k. is_identifier k ≡ false) b k e refl refl refl refl refl refl refl refl refl refl refl
    refl refl refl refl refl))
