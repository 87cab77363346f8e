-- What is read past in messages: how the code moves over it, that it takes tokens, and that it stays in the braces.
use Rattle.std.proofs.Common.{◌≡◌, ℕ, ◌+◌, ◌<◌, ◌≤◌, Bool, true}
use Rattle.std.proofs.Common.{List, [], ◌∷◌, length, refl, subst, arith}
use Rattle.proto_lex.specs.declared.token.TokenKind.TheVariants.{OpenBrace}
use Rattle.proto_lex.proofs.ReadingTestLemmas.{chosen}
use Rattle.proto_grammar.specs.Lexeme.{Lexeme}
use Rattle.proto_grammar.specs.Terminal.{first_is, of_kind}
use Rattle.proto_options.specs.Grammar.Passed.{braces_behind, brackets_behind, is_past, behind_open}
use Rattle.proto_options.specs.Grammar.Passed.{past_one, opens_bracket, has_sign, past_odd}

-- ---- as the code moves

-- ---- tokens are taken

pub open_leaves : (braces brackets : ℕ) (a : List Lexeme) → length (behind_open braces brackets a) ≤ length a
open_leaves braces brackets [] = omega arith
open_leaves braces brackets (t ∷ rest) =
    chosen (is_past braces brackets (t ∷ rest)) {z = behind_open braces brackets (t ∷ rest)} refl
    (λ _ same. subst (λ (left : List Lexeme). length left ≤ length (t ∷ rest)) same (omega arith))
    (λ _ same. subst (λ (left : List Lexeme). length left ≤ length (t ∷ rest)) same
    (omega (arith, open_leaves (braces_behind (t ∷ rest) braces) (brackets_behind (t ∷ rest) braces brackets) rest)))

-- past one token of these, and past what it opens
one_leaves : (t : Lexeme) (rest : List Lexeme) → length (past_one (t ∷ rest)) ≤ length rest
one_leaves t rest =
    chosen (of_kind OpenBrace t) {z = past_one (t ∷ rest)} refl
    (λ _ same. subst (λ (left : List Lexeme). length left ≤ length rest) same (open_leaves 1 0 rest))
    (λ _ e. chosen (opens_bracket (t ∷ rest)) {z = past_one (t ∷ rest)} e
    (λ _ same. subst (λ (left : List Lexeme). length left ≤ length rest) same (open_leaves 0 1 rest))
    (λ _ same. subst (λ (left : List Lexeme). length left ≤ length rest) same (omega arith)))

pub one_takes : (test : Lexeme → Bool) (a : List Lexeme) → first_is test a ≡ true → length (past_one a) < length a
one_takes test [] is = cc
one_takes test (t ∷ rest) is = omega (arith, one_leaves t rest)

pub past_one_leaves : (a : List Lexeme) → length (past_one a) ≤ length a
past_one_leaves [] = omega arith
past_one_leaves (t ∷ rest) = omega (arith, one_leaves t rest)

pub odd_takes : (t : Lexeme) (rest : List Lexeme) → length (past_odd (t ∷ rest)) < length (t ∷ rest)
odd_takes t rest =
    chosen (has_sign (t ∷ rest)) {z = past_odd (t ∷ rest)} refl
    (λ _ same. subst (λ (left : List Lexeme). length left < length (t ∷ rest)) same
    (omega (arith, past_one_leaves rest)))
    (λ _ same. subst (λ (left : List Lexeme). length left < length (t ∷ rest)) same
    (omega (arith, one_leaves t rest)))
