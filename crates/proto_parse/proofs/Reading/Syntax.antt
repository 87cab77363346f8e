-- How syntax statements are read, on places.
use Rattle.std.specs.Prelude.{◌&&◌, not, cond, Ok, Err, codes}
use Rattle.proto_lex.specs.declared.token.TokenKind.TheVariants.{Semicolon, Equals}
use Rattle.proto_grammar.specs.declared.dialect.Dialect.{Dialect}
use Rattle.proto_grammar.specs.declared.dialect.Syntax.{Syntax}
use Rattle.proto_grammar.specs.declared.dialect.Syntax.TheVariants.{Proto2}
use Rattle.proto_grammar.specs.declared.fault.SyntaxFault.TheVariants.{NotProto3}
use Rattle.proto_grammar.specs.Terminal.{first_is, of_kind, is_word, offset_at}
use Rattle.proto_grammar.specs.Syntax.{is_all}
use Rattle.proto_grammar.specs.Reading.Repetition.{◌>>=◌, Read, token_that}
use Rattle.proto_steps.specs.Version.{version_at}

unfoldable pub syntax_statement_at : Dialect → Read Syntax
syntax_statement_at dialect tokens = do
  keyword ← token_that (is_word (codes "syntax")) tokens
  equals ← token_that (of_kind Equals) keyword.1
  syntax ← version_at dialect equals.1
  semicolon ← token_that (of_kind Semicolon) syntax.1
  Ok (syntax.0, semicolon.1)

unfoldable pub syntax_at : Dialect → Read Syntax
syntax_at dialect tokens =
    cond (first_is (is_word (codes "syntax")) tokens.left) (syntax_statement_at dialect tokens)
    (cond (is_all dialect && not (first_is (is_word (codes "edition")) tokens.left)) (Ok (Proto2, tokens))
    (Err (NotProto3 (offset_at tokens))))
