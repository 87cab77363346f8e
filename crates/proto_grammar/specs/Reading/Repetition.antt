-- What a step reads from a place, with the place behind it, or else the fault that it meets: single tokens, and
-- repetition.
use Rattle.std.specs.Prelude.{ℕ, zero, suc, Bool, cond, Result, Ok, Err, Option, option_to_list, List, ◌++◌}
use Rattle.std.specs.Prelude.{length}
use Rattle.std.specs.Option.{option_map_or}
use Rattle.proto_lex.specs.declared.span.Span.{Span}
use Rattle.proto_lex.specs.declared.token.TokenKind.TheVariants.{StringLiteral}
use Rattle.proto_grammar.specs.declared.fault.SyntaxFault.{SyntaxFault}
use Rattle.proto_grammar.specs.declared.fault.SyntaxFault.TheVariants.{ImportEscape, Grammar, Memory}
use Rattle.proto_grammar.specs.Lexeme.{Lexeme, Place}
use Rattle.proto_grammar.specs.Terminal.{first, of_kind, is_plain_literal, offset_at, behind}

-- the next step, unless this one meets a fault
abbrev pub and_then : {A B : Type 0} → Result A SyntaxFault → (A → Result B SyntaxFault) → Result B SyntaxFault
and_then (Ok x) next = next x
and_then (Err fault) next = Err fault

infixl 10 ◌>>=◌
abbrev pub ◌>>=◌ : {A B : Type 0} → Result A SyntaxFault → (A → Result B SyntaxFault) → Result B SyntaxFault
o >>= next = and_then o next

abbrev pub Read : Type 0 → Type 0
Read A = Place → Result (A × Place) SyntaxFault

-- The next token can't be there, or tokens are missing.
abbrev pub misplaced : {A : Type 0} → Read A
misplaced place = Err (Grammar (offset_at place))

-- One token that passes the test.
unfoldable pub token_that : (Lexeme → Bool) → Read Span
token_that test place =
    option_map_or (λ t. cond (test t) (Ok (t.span, behind place)) (misplaced place)) (first place.left)
    (misplaced place)

-- A string literal without a `\`.
unfoldable pub plain_literal_at : Read Span
plain_literal_at place =
    option_map_or
    (λ t. cond (is_plain_literal t) (Ok (t.span, behind place))
    (cond (of_kind StringLiteral t) (Err (ImportEscape (offset_at place))) (misplaced place)))
    (first place.left) (misplaced place)

-- Where the next token is. It isn't taken.
unfoldable pub span_at : Read Span
span_at place = option_map_or (λ t. Ok (t.span, place)) (first place.left) (misplaced place)

-- Steps from a state, up to where they end. The number bounds how many: that many are enough.
abbrev pub until_by : {S : Type 0} → (List Lexeme → Bool) → (S → Read S) → ℕ → S → Read S
until_by ends step zero s place = cond (ends place.left) (Ok (s, place)) (step s place >>= λ x. Err Memory)
until_by ends step (suc n) s place =
    cond (ends place.left) (Ok (s, place)) (step s place >>= λ x. until_by ends step n x.0 x.1)

unfoldable pub until_at : {S : Type 0} → (List Lexeme → Bool) → (S → Read S) → S → Read S
until_at ends step s place = until_by ends step (length place.left) s place

-- An item after those before it.
abbrev pub adding : {A : Type 0} → Read (Option A) → List A → Read (List A)
adding item items place = item place >>= λ x. Ok (items ++ option_to_list x.0, x.1)

-- An item of which nothing is kept.
abbrev pub passing : Read (Unit {0}) → Unit {0} → Read (Unit {0})
passing item s place = item place

-- What is read, without its value.
abbrev pub passed : {A : Type 0} → Read A → Read (Unit {0})
passed item place = item place >>= λ x. Ok (tt, x.1)
