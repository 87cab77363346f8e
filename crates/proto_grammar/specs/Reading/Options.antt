-- Options.
use Rattle.std.specs.Prelude.{ℕ, ◌+◌, ◌-◌, ◌==◌, cond, Result, Ok, Err, List, [], ◌∷◌, codes}
use Rattle.proto_lex.specs.declared.token.TokenKind.TheVariants.{Identifier, StringLiteral, Semicolon, Equals}
use Rattle.proto_lex.specs.declared.token.TokenKind.TheVariants.{OpenBrace, CloseBrace, OpenBracket, CloseBracket}
use Rattle.proto_lex.specs.declared.token.TokenKind.TheVariants.{OpenParenthesis, CloseParenthesis, Comma, Dot}
use Rattle.proto_grammar.specs.declared.dialect.CustomOptions.{CustomOptions}
use Rattle.proto_grammar.specs.declared.dialect.CustomOptions.TheVariants.{Refuse, Skip}
use Rattle.proto_grammar.specs.Lexeme.{Lexeme, Place, place_of}
use Rattle.proto_grammar.specs.Terminal.{first, first_is, of_kind, is_word, is_sign, is_numeral, is_number}
use Rattle.proto_grammar.specs.Terminal.{not_next, offset_at, behind}
use Rattle.proto_grammar.specs.Reading.Repetition.{◌>>=◌, Read, misplaced, token_that, until_at, passing}
use Rattle.proto_grammar.specs.Reading.Names.{pass_name_at, pass_type_name_at}
use Rattle.std.specs.Option.{option_map_or}
use Rattle.proto_grammar.specs.declared.fault.SyntaxFault.{SyntaxFault}
use Rattle.proto_grammar.specs.declared.fault.SyntaxFault.TheVariants.{CustomOption, Aggregate, Grammar}

unfoldable pub extension_at : CustomOptions → Read (Unit {0})
extension_at Refuse tokens = Err (CustomOption (offset_at tokens))
extension_at Skip tokens = do
  open_parenthesis ← token_that (of_kind OpenParenthesis) tokens
  name ← pass_type_name_at open_parenthesis.1
  close_parenthesis ← token_that (of_kind CloseParenthesis) name.1
  Ok (tt, close_parenthesis.1)

unfoldable pub part_at : CustomOptions → Read (Unit {0})
part_at custom tokens =
    cond (first_is (of_kind OpenParenthesis) tokens.left)
    (extension_at custom tokens)
    (token_that (of_kind Identifier) tokens >>= λ name. Ok (tt, name.1))

unfoldable pub dot_part_at : CustomOptions → Read (Unit {0})
dot_part_at custom tokens = token_that (of_kind Dot) tokens >>= λ dot. part_at custom dot.1

unfoldable pub dot_parts_at : CustomOptions → Read (Unit {0})
dot_parts_at custom tokens = until_at (not_next Dot) (passing (dot_part_at custom)) tt tokens

unfoldable pub option_name_at : CustomOptions → Read (Unit {0})
option_name_at custom tokens = part_at custom tokens >>= λ part. dot_parts_at custom part.1

unfoldable pub literal_at : Read (Unit {0})
literal_at tokens = token_that (of_kind StringLiteral) tokens >>= λ text. Ok (tt, text.1)

unfoldable pub literals_at : Read (Unit {0})
literals_at tokens = until_at (not_next StringLiteral) (passing literal_at) tt tokens

unfoldable pub strings_at : Read (Unit {0})
strings_at tokens = literal_at tokens >>= λ text. literals_at text.1

-- how many braces are open after the token
abbrev pub depth_behind : Lexeme → ℕ → ℕ
depth_behind t depth = cond (of_kind OpenBrace t) (depth + 1) (cond (of_kind CloseBrace t) (depth - 1) depth)

-- One token, whatever it is.
unfoldable pub deeper_at : ℕ → Read ℕ
deeper_at depth tokens =
    option_map_or (λ t. Ok (depth_behind t depth, behind tokens)) (first tokens.left) (misplaced tokens)

-- Any tokens, up to and with the one that closes the last of this many open braces.
abbrev pub closed_by : ℕ → List Lexeme → (end : ℕ) → Result (Unit {0} × Place) SyntaxFault
closed_by depth [] end = cond (depth == 0) (Ok (tt, place_of end [])) (Err (Grammar end))
closed_by depth (t ∷ rest) end =
    cond (depth == 0) (Ok (tt, place_of end (t ∷ rest))) (closed_by (depth_behind t depth) rest end)

unfoldable pub closed_at : ℕ → Read (Unit {0})
closed_at depth tokens = closed_by depth tokens.left tokens.end

unfoldable pub aggregate_at : CustomOptions → Read (Unit {0})
aggregate_at Refuse tokens = Err (Aggregate (offset_at tokens))
aggregate_at Skip tokens = token_that (of_kind OpenBrace) tokens >>= λ open_brace. closed_at 1 open_brace.1

unfoldable pub signed_at : Read (Unit {0})
signed_at tokens = do
  sign ← token_that is_sign tokens
  number ← token_that is_number sign.1
  Ok (tt, number.1)

unfoldable pub constant_at : CustomOptions → Read (Unit {0})
constant_at custom tokens =
    cond (first_is (of_kind Identifier) tokens.left) (pass_name_at tokens)
    (cond (first_is is_sign tokens.left) (signed_at tokens)
    (cond (first_is (of_kind StringLiteral) tokens.left) (strings_at tokens)
    (cond (first_is (of_kind OpenBrace) tokens.left) (aggregate_at custom tokens)
    (token_that is_numeral tokens >>= λ number. Ok (tt, number.1)))))

unfoldable pub setting_at : CustomOptions → Read (Unit {0})
setting_at custom tokens = do
  name ← option_name_at custom tokens
  equals ← token_that (of_kind Equals) name.1
  constant_at custom equals.1

unfoldable pub comma_setting_at : CustomOptions → Read (Unit {0})
comma_setting_at custom tokens = token_that (of_kind Comma) tokens >>= λ comma. setting_at custom comma.1

unfoldable pub comma_settings_at : CustomOptions → Read (Unit {0})
comma_settings_at custom tokens = until_at (not_next Comma) (passing (comma_setting_at custom)) tt tokens

unfoldable pub option_at : CustomOptions → Read (Unit {0})
option_at custom tokens = do
  keyword ← token_that (is_word (codes "option")) tokens
  setting ← setting_at custom keyword.1
  semicolon ← token_that (of_kind Semicolon) setting.1
  Ok (tt, semicolon.1)

unfoldable pub bracketed_at : CustomOptions → Read (Unit {0})
bracketed_at custom tokens = do
  open_bracket ← token_that (of_kind OpenBracket) tokens
  setting ← setting_at custom open_bracket.1
  settings ← comma_settings_at custom setting.1
  close_bracket ← token_that (of_kind CloseBracket) settings.1
  Ok (tt, close_bracket.1)

unfoldable pub options_at : CustomOptions → Read (Unit {0})
options_at custom tokens = cond (first_is (of_kind OpenBracket) tokens.left) (bracketed_at custom tokens)
    (Ok (tt, tokens))
