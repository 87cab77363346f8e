-- Names and types.
use Rattle.std.specs.Prelude.{cond, Ok, Option, Some, None, List, [], ◌∷◌}
use Rattle.proto_lex.specs.declared.span.Span.{Span}
use Rattle.proto_lex.specs.declared.token.TokenKind.TheVariants.{Identifier, Dot}
use Rattle.proto_grammar.specs.declared.tree.TypeName.{TypeName}
use Rattle.proto_grammar.specs.declared.tree.FieldType.{FieldType}
use Rattle.proto_grammar.specs.declared.tree.FieldType.TheVariants.{Scalar, Named}
use Rattle.proto_grammar.specs.Terminal.{first_is, of_kind, is_scalar, not_next, begins_scalar}
use Rattle.proto_grammar.specs.Reading.Repetition.{◌>>=◌, Read, misplaced, token_that, until_at, adding, passing}
use Rattle.proto_grammar.specs.Reading.Repetition.{passed}

unfoldable pub dot_name_at : Read (Option Span)
dot_name_at tokens = do
  dot ← token_that (of_kind Dot) tokens
  name ← token_that (of_kind Identifier) dot.1
  Ok (Some name.0, name.1)

unfoldable pub dot_names_at : List Span → Read (List Span)
dot_names_at components tokens = until_at (not_next Dot) (adding dot_name_at) components tokens

unfoldable pub name_at : Read (List Span)
name_at tokens = token_that (of_kind Identifier) tokens >>= λ first. dot_names_at (first.0 ∷ []) first.1

unfoldable pub pass_dot_name_at : Read (Unit {0})
pass_dot_name_at tokens = passed dot_name_at tokens

unfoldable pub pass_dot_names_at : Read (Unit {0})
pass_dot_names_at tokens = until_at (not_next Dot) (passing pass_dot_name_at) tt tokens

unfoldable pub pass_name_at : Read (Unit {0})
pass_name_at tokens = token_that (of_kind Identifier) tokens >>= λ first. pass_dot_names_at first.1

unfoldable pub leading_dot_at : Read (Option Span)
leading_dot_at tokens = cond (first_is (of_kind Dot) tokens.left)
    (token_that (of_kind Dot) tokens >>= λ dot. Ok (Some dot.0, dot.1)) (Ok (None, tokens))

unfoldable pub type_name_at : Read TypeName
type_name_at tokens = do
  dot ← leading_dot_at tokens
  components ← name_at dot.1
  Ok (record { leading_dot = dot.0; components = components.0 }, components.1)

unfoldable pub pass_type_name_at : Read (Unit {0})
pass_type_name_at tokens = leading_dot_at tokens >>= λ dot. pass_name_at dot.1

-- a type that isn't kept
unfoldable pub pass_type_at : Read (Unit {0})
pass_type_at tokens =
    cond (begins_scalar tokens.left)
    (token_that is_scalar tokens >>= λ word. Ok (tt, word.1))
    (pass_type_name_at tokens)

unfoldable pub named_type_at : Read TypeName
named_type_at tokens = cond (begins_scalar tokens.left) (misplaced tokens) (type_name_at tokens)

unfoldable pub type_at : Read FieldType
type_at tokens =
    cond (begins_scalar tokens.left)
    (token_that is_scalar tokens >>= λ word. Ok (Scalar word.0, word.1))
    (type_name_at tokens >>= λ name. Ok (Named name.0, name.1))
