-- How services are read, on places.
use Rattle.std.specs.Prelude.{cond, Ok, Option, Some, None, List, [], codes}
use Rattle.proto_lex.specs.declared.span.Span.{Span}
use Rattle.proto_lex.specs.declared.token.TokenKind.TheVariants.{Identifier, Semicolon, OpenBrace, CloseBrace}
use Rattle.proto_lex.specs.declared.token.TokenKind.TheVariants.{OpenParenthesis, CloseParenthesis}
use Rattle.proto_parse.proofs.Reading.Enums.{heading_at}
use Rattle.proto_grammar.specs.declared.dialect.CustomOptions.{CustomOptions}
use Rattle.proto_grammar.specs.declared.tree.TypeName.{TypeName}
use Rattle.proto_grammar.specs.declared.tree.Method.{Method}
use Rattle.proto_grammar.specs.declared.tree.Service.{Service}
use Rattle.proto_grammar.specs.Terminal.{behind, first_is, of_kind, is_word, closes}
use Rattle.proto_grammar.specs.Reading.Repetition.{◌>>=◌, Read, token_that, until_at, adding, passing}
use Rattle.proto_grammar.specs.Reading.Names.{named_type_at}
use Rattle.proto_grammar.specs.Reading.Options.{option_at}

unfoldable pub stream_at : Read (Unit {0})
stream_at tokens = cond (first_is (is_word (codes "stream")) tokens.left) (Ok (tt, behind tokens)) (Ok (tt, tokens))

unfoldable pub method_type_at : Read TypeName
method_type_at tokens = do
  open_parenthesis ← token_that (of_kind OpenParenthesis) tokens
  stream ← stream_at open_parenthesis.1
  name ← named_type_at stream.1
  close_parenthesis ← token_that (of_kind CloseParenthesis) name.1
  Ok (name.0, close_parenthesis.1)

unfoldable pub method_item_at : CustomOptions → Read (Unit {0})
method_item_at custom tokens =
    cond (first_is (of_kind Semicolon) tokens.left) (Ok (tt, behind tokens)) (option_at custom tokens)

unfoldable pub method_items_at : CustomOptions → Read (Unit {0})
method_items_at custom tokens = until_at closes (passing (method_item_at custom)) tt tokens

unfoldable pub method_body_at : CustomOptions → Read Span
method_body_at custom tokens = do
  open_brace ← token_that (of_kind OpenBrace) tokens
  items ← method_items_at custom open_brace.1
  close_brace ← token_that (of_kind CloseBrace) items.1
  Ok (open_brace.0, close_brace.1)

unfoldable pub method_end_at : CustomOptions → Read Span
method_end_at custom tokens = cond (first_is (of_kind Semicolon) tokens.left) (token_that (of_kind Semicolon) tokens)
    (method_body_at custom tokens)

unfoldable pub method_at : CustomOptions → Read Method
method_at custom tokens = do
  first ← token_that (is_word (codes "rpc")) tokens
  name ← token_that (of_kind Identifier) first.1
  input ← method_type_at name.1
  returns ← token_that (is_word (codes "returns")) input.1
  output ← method_type_at returns.1
  closing ← method_end_at custom output.1
  Ok (
    record {
      heading = record { first = first.0; name = name.0; closing = closing.0 };
      input = input.0;
      output = output.0;
    },
    closing.1,
  )

unfoldable pub service_item_at : CustomOptions → Read (Option Method)
service_item_at custom tokens =
    cond (first_is (of_kind Semicolon) tokens.left) (Ok (None, behind tokens))
    (cond (first_is (is_word (codes "option")) tokens.left) (option_at custom tokens >>= λ x. Ok (None, x.1))
    (method_at custom tokens >>= λ method. Ok (Some method.0, method.1)))

unfoldable pub service_items_at : CustomOptions → Read (List Method)
service_items_at custom tokens = until_at closes (adding (service_item_at custom)) [] tokens

unfoldable pub service_at : CustomOptions → Read Service
service_at custom tokens = do
  heading ← heading_at (codes "service") tokens
  methods ← service_items_at custom heading.1
  close_brace ← token_that (of_kind CloseBrace) methods.1
  Ok (record { heading = heading.0; methods = methods.0 }, close_brace.1)
