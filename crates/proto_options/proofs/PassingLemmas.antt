-- What a step reads that the grammar reads past.
use Rattle.std.proofs.Common.{◌≡◌, true, cond, Ok, Some, [], ◌∷◌, refl}
use Rattle.proto_lex.specs.declared.token.TokenKind.TheVariants.{Identifier, Integer, Dot, Minus}
use Rattle.proto_grammar.specs.Lexeme.{Place}
use Rattle.proto_grammar.specs.Terminal.{first_is, of_kind, behind}
use Rattle.proto_grammar.specs.Reading.Repetition.{◌>>=◌, token_that}
use Rattle.proto_grammar.specs.Reading.Names.{dot_name_at, dot_names_at, name_at}
use Rattle.proto_grammar.specs.Reading.Reserved.{plain_integer_at, integer_at}

pub dot_name_by : (place : Place)
    → dot_name_at place
    ≡ (token_that (of_kind Dot) place
    >>= λ dot. token_that (of_kind Identifier) dot.1 >>= λ name. Ok (Some name.0, name.1))
unfolding dot_name_at
dot_name_by place = refl

pub name_by : (place : Place)
    → name_at place ≡ (token_that (of_kind Identifier) place >>= λ first. dot_names_at (first.0 ∷ []) first.1)
unfolding name_at
name_by place = refl

pub integer_by : (place : Place)
    → integer_at true place
    ≡ cond (first_is (of_kind Minus) place.left)
    (token_that (of_kind Integer) (behind place) >>= λ number. Ok (tt, number.1))
    (token_that (of_kind Integer) place >>= λ number. Ok (tt, number.1))
unfolding integer_at plain_integer_at
integer_by place = refl
