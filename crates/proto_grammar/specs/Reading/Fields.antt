-- Fields.
use Rattle.std.specs.Prelude.{cond, Ok, Option, Some, None, codes}
use Rattle.proto_lex.specs.declared.span.Span.{Span}
use Rattle.proto_lex.specs.declared.token.TokenKind.TheVariants.{Identifier, Integer, Semicolon, Equals, Less, Greater}
use Rattle.proto_lex.specs.declared.token.TokenKind.TheVariants.{OpenBrace, Comma}
use Rattle.proto_grammar.specs.declared.dialect.CustomOptions.{CustomOptions}
use Rattle.proto_grammar.specs.declared.dialect.Syntax.{Syntax}
use Rattle.proto_grammar.specs.declared.dialect.Syntax.TheVariants.{Proto3}
use Rattle.proto_grammar.specs.declared.tree.Heading.{Heading}
use Rattle.proto_grammar.specs.declared.tree.Label.{Label}
use Rattle.proto_grammar.specs.declared.tree.Label.TheVariants.{Repeated, Optional, Required}
use Rattle.proto_grammar.specs.declared.tree.Field.{Field}
use Rattle.proto_grammar.specs.declared.tree.Group.{Group}
use Rattle.proto_grammar.specs.declared.tree.MapField.{MapField}
use Rattle.proto_grammar.specs.Terminal.{behind, first_is, of_kind, is_word, is_group_name, is_key}
use Rattle.proto_grammar.specs.Syntax.{is_proto2}
use Rattle.proto_grammar.specs.Reading.Repetition.{◌>>=◌, Read, token_that, span_at}
use Rattle.proto_grammar.specs.Reading.Names.{type_at, pass_type_at}
use Rattle.proto_grammar.specs.Reading.Options.{options_at}

unfoldable pub numbered_at : CustomOptions → Span → Read Heading
numbered_at custom first tokens = do
  name ← token_that (of_kind Identifier) tokens
  equals ← token_that (of_kind Equals) name.1
  number ← token_that (of_kind Integer) equals.1
  options ← options_at custom number.1
  closing ← token_that (of_kind Semicolon) options.1
  Ok (record { first = first; name = name.0; closing = closing.0 }, closing.1)

unfoldable pub typed_at : CustomOptions → Span → Option Label → Read Field
typed_at custom first label tokens = do
  type ← type_at tokens
  heading ← numbered_at custom first type.1
  Ok (record { heading = heading.0; label = label; field_type = type.0 }, heading.1)

unfoldable pub required_at : Read (Option Label)
required_at tokens = token_that (is_word (codes "required")) tokens >>= λ word. Ok (Some Required, word.1)

unfoldable pub label_at : Syntax → Read (Option Label)
label_at syntax tokens =
    cond (first_is (is_word (codes "repeated")) tokens.left) (Ok (Some Repeated, behind tokens))
    (cond (first_is (is_word (codes "optional")) tokens.left) (Ok (Some Optional, behind tokens))
    (cond (is_proto2 syntax) (required_at tokens) (Ok (None, tokens))))

unfoldable pub pass_field_at : CustomOptions → Read (Unit {0})
pass_field_at custom tokens = do
  first ← span_at tokens
  label ← label_at (Proto3 custom) first.1
  type ← pass_type_at label.1
  heading ← numbered_at custom first.0 type.1
  Ok (tt, heading.1)

unfoldable pub group_head_at : CustomOptions → Span → Option Label → Read Group
group_head_at custom first label tokens = do
  word ← token_that (is_word (codes "group")) tokens
  name ← token_that is_group_name word.1
  equals ← token_that (of_kind Equals) name.1
  number ← token_that (of_kind Integer) equals.1
  options ← options_at custom number.1
  closing ← token_that (of_kind OpenBrace) options.1
  Ok (
    record {
      heading = record { first = first; name = name.0; closing = closing.0 };
      label = label;
      word = word.0;
    },
    closing.1,
  )

unfoldable pub map_field_at : CustomOptions → Read MapField
map_field_at custom tokens = do
  first ← token_that (is_word (codes "map")) tokens
  less ← token_that (of_kind Less) first.1
  key ← token_that is_key less.1
  comma ← token_that (of_kind Comma) key.1
  value ← type_at comma.1
  greater ← token_that (of_kind Greater) value.1
  heading ← numbered_at custom first.0 greater.1
  Ok (record { heading = heading.0; key = key.0; value = value.0 }, heading.1)
