-- How headings and enums are read, on places.
use Rattle.std.specs.Prelude.{ℕ, true, cond, Ok, Option, Some, None, List, [], codes}
use Rattle.proto_lex.specs.declared.token.TokenKind.TheVariants.{Identifier, Semicolon, Equals, OpenBrace, CloseBrace}
use Rattle.proto_grammar.specs.declared.dialect.CustomOptions.{CustomOptions}
use Rattle.proto_grammar.specs.declared.tree.Heading.{Heading}
use Rattle.proto_grammar.specs.declared.tree.Enum.{Enum}
use Rattle.proto_grammar.specs.Terminal.{behind, first_is, of_kind, is_word, closes}
use Rattle.proto_grammar.specs.Reading.Repetition.{◌>>=◌, Read, token_that, until_at, adding}
use Rattle.proto_grammar.specs.Reading.Options.{option_at, options_at}
use Rattle.proto_grammar.specs.Reading.Reserved.{integer_at, reserved_at}

unfoldable pub heading_at : List ℕ → Read Heading
heading_at word tokens = do
  first ← token_that (is_word word) tokens
  name ← token_that (of_kind Identifier) first.1
  closing ← token_that (of_kind OpenBrace) name.1
  Ok (record { first = first.0; name = name.0; closing = closing.0 }, closing.1)

unfoldable pub value_at : CustomOptions → Read Heading
value_at custom tokens = do
  name ← token_that (of_kind Identifier) tokens
  equals ← token_that (of_kind Equals) name.1
  number ← integer_at true equals.1
  options ← options_at custom number.1
  closing ← token_that (of_kind Semicolon) options.1
  Ok (record { first = name.0; name = name.0; closing = closing.0 }, closing.1)

unfoldable pub enum_item_at : CustomOptions → Read (Option Heading)
enum_item_at custom tokens =
    cond (first_is (of_kind Semicolon) tokens.left) (Ok (None, behind tokens))
    (cond (first_is (is_word (codes "option")) tokens.left) (option_at custom tokens >>= λ x. Ok (None, x.1))
    (cond (first_is (is_word (codes "reserved")) tokens.left) (reserved_at true tokens >>= λ x. Ok (None, x.1))
    (value_at custom tokens >>= λ value. Ok (Some value.0, value.1))))

unfoldable pub enum_items_at : CustomOptions → Read (List Heading)
enum_items_at custom tokens = until_at closes (adding (enum_item_at custom)) [] tokens

unfoldable pub enum_at : CustomOptions → Read Enum
enum_at custom tokens = do
  heading ← heading_at (codes "enum") tokens
  values ← enum_items_at custom heading.1
  close_brace ← token_that (of_kind CloseBrace) values.1
  Ok (record { heading = heading.0; values = values.0 }, close_brace.1)
