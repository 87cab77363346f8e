-- What a step takes of one token.
use Rattle.std.proofs.Common.{◌≡◌, Bool, true, false, cond, Result, Ok, Some, None, List, [], ◌∷◌, ℕ, refl}
use Rattle.std.specs.Option.{option_map_or}
use Rattle.proto_lex.specs.declared.span.Span.{Span}
use Rattle.proto_lex.specs.declared.token.TokenKind.{TokenKind}
use Rattle.proto_grammar.specs.declared.fault.SyntaxFault.{SyntaxFault}
use Rattle.proto_grammar.specs.Lexeme.{Lexeme, Place, place_of}
use Rattle.proto_grammar.specs.Terminal.{first, of_kind, behind}
use Rattle.proto_grammar.specs.Reading.Repetition.{token_that, misplaced}

pub token_by : (test : Lexeme → Bool) (place : Place) → token_that test place
    ≡ option_map_or (λ t. cond (test t) (Ok (t.span, behind place)) (misplaced place)) (first place.left)
    (misplaced place)
unfolding token_that
token_by test place = refl

by_test : (is : Bool) (span : Span) (rest : Place) (otherwise : Result (Span × Place) SyntaxFault)
    → cond is (Ok (span, rest)) otherwise
    ≡ option_map_or (λ span. Ok (span, rest)) (cond is (Some span) None) otherwise
by_test true span rest otherwise = refl
by_test false span rest otherwise = refl

by_span : (kind : TokenKind) (left : List Lexeme) (end : ℕ) → token_that (of_kind kind) (place_of end left)
    ≡ option_map_or (λ span. Ok (span, behind (place_of end left)))
    (option_map_or (λ t. cond (of_kind kind t) (Some t.span) None) (first left) None) (misplaced (place_of end left))
unfolding token_that
by_span kind [] end = refl
by_span kind (t ∷ rest) end =
    let here = place_of end (t ∷ rest) in
    by_test (of_kind kind t) t.span (behind here) (misplaced here)

-- the same by where the next token is, if it is of the kind
pub token_by_span : (kind : TokenKind) (place : Place) → token_that (of_kind kind) place
    ≡ option_map_or (λ span. Ok (span, behind place))
    (option_map_or (λ t. cond (of_kind kind t) (Some t.span) None) (first place.left) None) (misplaced place)
token_by_span kind place = by_span kind place.left place.end
