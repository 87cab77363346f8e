-- Options with the names in them (proto3 specification, "Option"). The relations of the grammar say of the same tokens
-- that an option is there; these say what is named in it.
use Rattle.std.specs.Prelude.{ℕ, Option, None, List, [], ◌∷◌, ◌++◌, length}
use Rattle.proto_lex.specs.declared.span.Span.{Span}
use Rattle.proto_lex.specs.declared.token.TokenKind.TheVariants.{Identifier, Equals, Dot, OpenBrace}
use Rattle.proto_lex.specs.declared.token.TokenKind.TheVariants.{OpenParenthesis, CloseParenthesis}
use Rattle.proto_parse.specs.tree.TypeName.{TypeName}
use Rattle.proto_grammar.specs.Lexeme.{Lexeme}
use Rattle.proto_grammar.specs.Terminal.{of_kind, is_sign, is_numeral, is_number, not_next}
use Rattle.proto_grammar.specs.Grammar.Repetition.{One, Until}
use Rattle.proto_grammar.specs.Grammar.Names.{IsName, IsTypeName}
use Rattle.proto_grammar.specs.Grammar.Options.{IsStrings, IsClosed}
use Rattle.proto_options.specs.declared.names.OptionRole.TheVariants.{Field, Extension, Value}
use Rattle.proto_options.specs.declared.names.Setting.{Setting}
use Rattle.proto_options.specs.Names.{Names, named, plain, one_word, last_number}
use Rattle.proto_options.specs.Grammar.Aggregates.{IsMessageWithin, max_aggregate_depth}

-- A part of an option's name: IDENT | "(" typename ")".
pub data NamesPart (around : Option ℕ) : Names → List Lexeme → Names → List Lexeme → Type 0 where
  field : {names : Names} {a b : List Lexeme} {word : Span} → One (of_kind Identifier) a word b
      → NamesPart around names a (names ++ named Field around (one_word word) ∷ []) b
  extension : {names : Names} {a b c d : List Lexeme} {open_parenthesis close_parenthesis : Span} {name : TypeName}
      → One (of_kind OpenParenthesis) a open_parenthesis b → IsTypeName b name c
      → One (of_kind CloseParenthesis) c close_parenthesis d
      → NamesPart around names a (names ++ named Extension around name ∷ []) d

-- "." part: it is looked up in the type of the part before.
pub data NamesDotPart : Names → List Lexeme → Names → List Lexeme → Type 0 where
  dot_part : {names after : Names} {a b c : List Lexeme} {dot : Span}
      → One (of_kind Dot) a dot b → NamesPart (last_number names) names b after c → NamesDotPart names a after c

-- part { "." part }
pub data NamesOption : List Lexeme → Names → List Lexeme → Type 0 where
  option_name : {names after : Names} {a b c : List Lexeme}
      → NamesPart None [] a names b → Until (not_next Dot) NamesDotPart names b after c → NamesOption a after c

-- constant = name | [ "-" | "+" ] ( INT | FLOAT | "inf" | "nan" ) | strings | "{" message "}". It is given to the part
-- before, the last of the names. Braces are balanced; in them is a message of the text format, and what is none of it
-- is read past.
pub data NamesValue : Names → List Lexeme → Names → List Lexeme → Type 0 where
  name : {names : Names} {a b : List Lexeme} {components : List Span} → IsName a components b
      → NamesValue names a (names ++ named Value (last_number names) (plain components) ∷ []) b
  signed : {names : Names} {a b c : List Lexeme} {sign number : Span}
      → One is_sign a sign b → One is_number b number c → NamesValue names a names c
  unsigned : {names : Names} {a b : List Lexeme} {number : Span} → One is_numeral a number b
      → NamesValue names a names b
  strings : {names : Names} {a b : List Lexeme} → IsStrings a b → NamesValue names a names b
  aggregate : {names after : Names} {a b c : List Lexeme} {open_brace : Span}
      → One (of_kind OpenBrace) a open_brace b → IsClosed 1 b c
      → IsMessageWithin max_aggregate_depth (last_number names) names a after c
      → NamesValue names a after c

-- name "=" constant, with all names that are in it: the parts of the option's name first.
pub data NamesSetting : List Lexeme → Setting → List Lexeme → Type 0 where
  setting : {parts names : Names} {a b c d : List Lexeme} {equals : Span}
      → NamesOption a parts b → One (of_kind Equals) b equals c → NamesValue parts c names d
      → NamesSetting a (record { parts = length parts; names = names }) d
