-- Reserved statements and extension ranges.
use Rattle.std.specs.Prelude.{Bool, false, cond, ◌&&◌, Ok, codes}
use Rattle.proto_lex.specs.declared.token.TokenKind.TheVariants.{Integer, StringLiteral, Semicolon, Comma, Minus}
use Rattle.proto_grammar.specs.declared.dialect.CustomOptions.{CustomOptions}
use Rattle.proto_grammar.specs.Terminal.{behind, first_is, of_kind, is_word, not_next}
use Rattle.proto_grammar.specs.Reading.Repetition.{◌>>=◌, Read, token_that, until_at, passing}
use Rattle.proto_grammar.specs.Reading.Options.{strings_at, options_at}

unfoldable pub plain_integer_at : Read (Unit {0})
plain_integer_at tokens = token_that (of_kind Integer) tokens >>= λ number. Ok (tt, number.1)

unfoldable pub integer_at : Bool → Read (Unit {0})
integer_at negative tokens = cond (negative && first_is (of_kind Minus) tokens.left) (plain_integer_at (behind tokens))
    (plain_integer_at tokens)

unfoldable pub range_end_at : Bool → Read (Unit {0})
range_end_at negative tokens =
    cond (first_is (is_word (codes "max")) tokens.left) (Ok (tt, behind tokens)) (integer_at negative tokens)

unfoldable pub range_at : Bool → Read (Unit {0})
range_at negative tokens =
    integer_at negative tokens >>= λ number. cond (first_is (is_word (codes "to")) number.1.left)
    (range_end_at negative (behind number.1)) (Ok (tt, number.1))

unfoldable pub reserved_item_at : Bool → Bool → Read (Unit {0})
reserved_item_at negative names tokens = cond names (strings_at tokens) (range_at negative tokens)

unfoldable pub comma_item_at : Bool → Bool → Read (Unit {0})
comma_item_at negative names tokens =
    token_that (of_kind Comma) tokens >>= λ comma. reserved_item_at negative names comma.1

unfoldable pub comma_items_at : Bool → Bool → Read (Unit {0})
comma_items_at negative names tokens = until_at (not_next Comma) (passing (comma_item_at negative names)) tt tokens

unfoldable pub reserved_at : Bool → Read (Unit {0})
reserved_at negative tokens = do
  keyword ← token_that (is_word (codes "reserved")) tokens
  item ← reserved_item_at negative (first_is (of_kind StringLiteral) keyword.1.left) keyword.1
  items ← comma_items_at negative (first_is (of_kind StringLiteral) keyword.1.left) item.1
  semicolon ← token_that (of_kind Semicolon) items.1
  Ok (tt, semicolon.1)

unfoldable pub extensions_at : CustomOptions → Read (Unit {0})
extensions_at custom tokens = do
  keyword ← token_that (is_word (codes "extensions")) tokens
  range ← range_at false keyword.1
  ranges ← comma_items_at false false range.1
  options ← options_at custom ranges.1
  semicolon ← token_that (of_kind Semicolon) options.1
  Ok (tt, semicolon.1)
