-- Which version the literals of a syntax statement spell when joined.
use Rattle.std.specs.Prelude.{ℕ, Bool, false, cond, Ok, Err, Option, Some, None, List, [], ◌∷◌, ◌++◌, length, drop}
use Rattle.std.specs.Prelude.{bytes_eq, nat_eq, codes}
use Rattle.std.specs.List.{starts_with}
use Rattle.std.specs.Option.{option_map_or}
use Rattle.proto_lex.specs.declared.token.TokenKind.TheVariants.{StringLiteral}
use Rattle.proto_grammar.specs.declared.dialect.Dialect.{Dialect}
use Rattle.proto_grammar.specs.declared.dialect.Syntax.{Syntax}
use Rattle.proto_grammar.specs.declared.dialect.Syntax.TheVariants.{Proto2}
use Rattle.proto_grammar.specs.declared.fault.SyntaxFault.TheVariants.{NotProto3}
use Rattle.proto_grammar.specs.Lexeme.{Lexeme, Place}
use Rattle.proto_grammar.specs.Terminal.{first_is, of_kind, between_quotes, offset_at}
use Rattle.proto_grammar.specs.Syntax.{proto3_in, is_all}
use Rattle.proto_grammar.specs.Reading.Repetition.{Read, misplaced}
use Rattle.proto_steps.specs.declared.statement.Version.{Version}
use Rattle.proto_steps.specs.declared.statement.Version.TheVariants as version

-- Which version a text names.
abbrev pub version_of : List ℕ → Version
version_of text =
    cond (bytes_eq text (codes "proto3")) version.Proto3
    (cond (bytes_eq text (codes "proto2")) version.Proto2
    version.Other)

-- What is left of a text behind what it begins with.
abbrev pub stripped_of : Option (List ℕ) → List ℕ → Option (List ℕ)
stripped_of None content = None
stripped_of (Some text) content = cond (starts_with nat_eq text content) (Some (drop (length content) text)) None

-- Whether the text is what is left.
abbrev pub is_left : Option (List ℕ) → List ℕ → Bool
is_left None text = false
is_left (Some left) text = bytes_eq text left

abbrev pub content_of : Option Lexeme → List ℕ
content_of None = []
content_of (Some t) = between_quotes t.spelling

-- The literals that are next, joined, and what is behind them.
abbrev pub joined_of : List Lexeme → List ℕ
joined_of [] = []
joined_of (t ∷ rest) = cond (of_kind StringLiteral t) (between_quotes t.spelling ++ joined_of rest) []

abbrev pub behind_literals : List Lexeme → List Lexeme
behind_literals [] = []
behind_literals (t ∷ rest) = cond (of_kind StringLiteral t) (behind_literals rest) (t ∷ rest)

-- The place behind the literals that are next.
abbrev pub past_literals : Place → Place
past_literals place = record { left = behind_literals place.left; end = place.end }

abbrev pub syntax_by : Version → Dialect → Option Syntax
syntax_by version.Proto3 dialect = Some (proto3_in dialect)
syntax_by version.Proto2 dialect = cond (is_all dialect) (Some Proto2) None
syntax_by version.Other dialect = None

unfoldable pub version_at : Dialect → Read Syntax
version_at dialect tokens =
    cond (first_is (of_kind StringLiteral) tokens.left)
    (option_map_or (λ syntax. Ok (syntax, past_literals tokens))
    (syntax_by (version_of (joined_of tokens.left)) dialect)
    (Err (NotProto3 (offset_at tokens))))
    (misplaced tokens)
