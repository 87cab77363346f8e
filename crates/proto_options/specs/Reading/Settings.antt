-- Options with the names in them: what a step reads.
use Rattle.std.specs.Prelude.{ℕ, cond, Ok, Option, Some, None, [], ◌∷◌, ◌++◌, length}
use Rattle.proto_lex.specs.declared.token.TokenKind.TheVariants.{Identifier, StringLiteral, Equals, Dot, OpenBrace}
use Rattle.proto_lex.specs.declared.token.TokenKind.TheVariants.{OpenParenthesis, CloseParenthesis}
use Rattle.proto_parse.specs.tree.TypeName.{TypeName}
use Rattle.proto_grammar.specs.Terminal.{first_is, of_kind, is_sign, is_numeral, is_number, not_next}
use Rattle.proto_grammar.specs.Reading.Repetition.{◌>>=◌, Read, token_that, until_at}
use Rattle.proto_grammar.specs.Reading.Names.{name_at}
use Rattle.proto_options.specs.declared.names.OptionRole.TheVariants.{Field, Extension, Value}
use Rattle.proto_options.specs.declared.names.Setting.{Setting}
use Rattle.proto_options.specs.Names.{Names, named, plain, last_number}
use Rattle.proto_options.specs.Grammar.Aggregates.{max_aggregate_depth}
use Rattle.proto_options.specs.Reading.Aggregates.{Adding, nothing_added, word_at, strings_at, message_at}

abbrev pub rooted_name_at : Read TypeName
rooted_name_at tokens = do
  dot ← token_that (of_kind Dot) tokens
  components ← name_at dot.1
  Ok (record { leading_dot = Some dot.0; components = components.0 }, components.1)

unfoldable pub type_name_at : Read TypeName
type_name_at tokens =
    cond (first_is (of_kind Dot) tokens.left) (rooted_name_at tokens)
    (name_at tokens >>= λ components. Ok (plain components.0, components.1))

unfoldable pub extension_at : Option ℕ → Adding
extension_at around names tokens = do
  open_parenthesis ← token_that (of_kind OpenParenthesis) tokens
  name ← type_name_at open_parenthesis.1
  close_parenthesis ← token_that (of_kind CloseParenthesis) name.1
  Ok (names ++ named Extension around name.0 ∷ [], close_parenthesis.1)

unfoldable pub part_at : Option ℕ → Adding
part_at around names tokens =
    cond (first_is (of_kind OpenParenthesis) tokens.left) (extension_at around names tokens)
    (word_at Field around names tokens)

unfoldable pub dot_part_at : Adding
dot_part_at names tokens = token_that (of_kind Dot) tokens >>= λ dot. part_at (last_number names) names dot.1

unfoldable pub dot_parts_at : Adding
dot_parts_at names tokens = until_at (not_next Dot) dot_part_at names tokens

unfoldable pub option_name_at : Read Names
option_name_at tokens = part_at None [] tokens >>= λ first. dot_parts_at first.0 first.1

unfoldable pub name_value_at : Adding
name_value_at names tokens =
    name_at tokens
    >>= λ components. Ok (names ++ named Value (last_number names) (plain components.0) ∷ [], components.1)

unfoldable pub signed_value_at : Read (Unit {0})
signed_value_at tokens = do
  sign ← token_that is_sign tokens
  number ← token_that is_number sign.1
  Ok (tt, number.1)

unfoldable pub aggregate_at : Adding
aggregate_at names tokens = message_at max_aggregate_depth (last_number names) names tokens

unfoldable pub value_at : Adding
value_at names tokens =
    cond (first_is (of_kind Identifier) tokens.left) (name_value_at names tokens)
    (cond (first_is is_sign tokens.left) (nothing_added signed_value_at names tokens)
    (cond (first_is (of_kind StringLiteral) tokens.left) (nothing_added strings_at names tokens)
    (cond (first_is (of_kind OpenBrace) tokens.left) (aggregate_at names tokens)
    (token_that is_numeral tokens >>= λ number. Ok (names, number.1)))))

-- with the names in its value
unfoldable pub setting_at : Read Setting
setting_at tokens = do
  parts ← option_name_at tokens
  equals ← token_that (of_kind Equals) parts.1
  names ← value_at parts.0 equals.1
  Ok (record { parts = length parts.0; names = names.0 }, names.1)
