-- String literals may be cut behind their first quote and before their last one.
use Rattle.std.proofs.Common.{◌≡◌, ◌∙◌, sym, ap, refl, ℕ, ◌-◌, ◌<◌, ◌≤◌, Bool, true, false, Some, List, []}
use Rattle.std.proofs.Common.{◌∷◌, ◌++◌, length, get_or, arith, length-append, IsUtf8, IsCharBoundary}
use Rattle.std.proofs.lemmas.Bool.Decides.{nat_tests}
use Rattle.std.proofs.lemmas.List.{get_or-append_right}
use Rattle.std.proofs.lemmas.Str.{IsCharBoundary-before_ascii, IsCharBoundary-after_ascii}
use Rattle.proto_lex.specs.Bytes.{is_quote}
use Rattle.proto_lex.specs.Lexes.{Spells, sign_kind}
use Rattle.proto_lex.specs.Lexes.Spells.{literal, sign, identifier, integer, float}
use Rattle.proto_lex.specs.Literals.{EndsLiteral}
use Rattle.proto_lex.specs.Literals.EndsLiteral.{close, character, escape}
use Rattle.proto_lex.specs.declared.token.TokenKind.{TokenKind}
use Rattle.proto_lex.specs.declared.token.TokenKind.TheVariants.{StringLiteral}
use Rattle.proto_lex.proofs.PieceFound.{sign_cases}
use Rattle.basics.proofs.BoolLemmas.{never}

-- what follows a quote in its literal ends in the quote
record EndsInQuote (quote : ℕ) (others : List ℕ) : Type 0 where
  some : 1 ≤ length others
  quoted : get_or others (length others - 1) 0 ≡ quote

behind : (quote : ℕ) (prefix others : List ℕ) → EndsInQuote quote others → EndsInQuote quote (prefix ++ others)
behind quote prefix others ends =
    let count = length-append prefix others in
    let at : length (prefix ++ others) - 1 - length prefix ≡ length others - 1 = omega (arith, ends.some) in
    record {
      some = omega (arith, ends.some);
      quoted = get_or-append_right prefix others (length prefix) (length (prefix ++ others) - 1) 0 refl
          (omega (arith, ends.some)) ∙ (ap (λ i. get_or others i 0) at ∙ ends.quoted);
    }

ends_in_quote : {quote : ℕ} {others : List ℕ} → EndsLiteral quote others → EndsInQuote quote others
ends_in_quote close = record { some = omega arith; quoted = refl }
ends_in_quote (character {b} {others} plain ends) = behind _ (b ∷ []) others (ends_in_quote ends)
ends_in_quote (escape {letters} {others} e ends) = behind _ (92 ∷ letters) others (ends_in_quote ends)

ascii : (quote : ℕ) → is_quote quote ≡ true → quote < 128
ascii quote e = grind (arith, nat_tests)

record IsQuoted (spelling : List ℕ) : Type 0 where
  some : 2 ≤ length spelling
  first : get_or spelling 0 0 < 128
  last : get_or spelling (length spelling - 1) 0 < 128

quoted : (quote : ℕ) (others : List ℕ) → is_quote quote ≡ true → EndsInQuote quote others → IsQuoted (quote ∷ others)
quoted quote others e ends =
    let all = behind quote (quote ∷ []) others ends in
    record { some = omega (arith, ends.some); first = ascii quote e; last = omega (arith, all.quoted, ascii quote e) }

-- no sign is a literal
is_literal : TokenKind → Bool
is_literal StringLiteral = true
is_literal _ = false

not_a_sign : (b : ℕ) (k : TokenKind) → sign_kind b ≡ Some k → k ≡ StringLiteral → ⊥
unfolding is_literal
not_a_sign b k e is = never
    (sym (sign_cases (λ b k. is_literal k ≡ false) b k e refl refl refl refl refl refl refl refl refl refl refl refl
    refl refl refl refl) ∙ ap is_literal is)

literal_quoted : {k : TokenKind} {spelling : List ℕ} → Spells k spelling → k ≡ StringLiteral → IsQuoted spelling
unfolding is_literal
literal_quoted (identifier e f) is = never (ap is_literal is)
literal_quoted (integer e) is = never (ap is_literal is)
literal_quoted (float e) is = never (ap is_literal is)
literal_quoted (literal {quote} {others} e ends) is = quoted quote others e (ends_in_quote ends)
literal_quoted (sign {b} {k} e) is = absurd (not_a_sign b k e is)

-- of a literal of a text, what stands between its quotes
pub cut_first : {spelling : List ℕ} → Spells StringLiteral spelling → IsUtf8 spelling → IsCharBoundary spelling 1
cut_first {spelling} spells utf8 = let q = literal_quoted spells refl in
    IsCharBoundary-after_ascii spelling 0 utf8 (omega (arith, q.some)) q.first

pub cut_last : {spelling : List ℕ} → Spells StringLiteral spelling
    → (1 ≤ length spelling - 1) × IsCharBoundary spelling (length spelling - 1)
cut_last {spelling} spells = let q = literal_quoted spells refl in
    (omega (arith, q.some), IsCharBoundary-before_ascii spelling (length spelling - 1) (omega (arith, q.some)) q.last)
