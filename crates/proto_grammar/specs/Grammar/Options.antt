-- Options (proto3 specification, "Option" and "Constant"). Nothing of them is kept.
use Rattle.std.specs.Prelude.{◌≡◌, ℕ, zero, suc, true, false, List, codes}
use Rattle.proto_lex.specs.declared.span.Span.{Span}
use Rattle.proto_lex.specs.declared.token.TokenKind.TheVariants.{Identifier, StringLiteral, Semicolon, Equals}
use Rattle.proto_lex.specs.declared.token.TokenKind.TheVariants.{OpenBrace, CloseBrace, OpenBracket, CloseBracket}
use Rattle.proto_lex.specs.declared.token.TokenKind.TheVariants.{OpenParenthesis, CloseParenthesis, Comma, Dot}
use Rattle.proto_grammar.specs.declared.dialect.CustomOptions.{CustomOptions}
use Rattle.proto_grammar.specs.declared.dialect.CustomOptions.TheVariants.{Skip}
use Rattle.proto_grammar.specs.declared.tree.TypeName.{TypeName}
use Rattle.proto_grammar.specs.Lexeme.{Lexeme}
use Rattle.proto_grammar.specs.Terminal.{first_is, of_kind, is_word, is_sign, is_numeral, is_number, not_next}
use Rattle.proto_grammar.specs.Grammar.Repetition.{One, Until, Passes}
use Rattle.proto_grammar.specs.Grammar.Names.{IsName, IsTypeName}

-- A part of an option's name: IDENT. If custom options are read past (the project's own), also "(" typename ")".
pub data IsOptionPart : CustomOptions → List Lexeme → List Lexeme → Type 0 where
  plain : {custom : CustomOptions} {a b : List Lexeme} {name : Span} → One (of_kind Identifier) a name b
      → IsOptionPart custom a b
  extension : {a b c d : List Lexeme} {open_parenthesis close_parenthesis : Span} {name : TypeName}
      → One (of_kind OpenParenthesis) a open_parenthesis b → IsTypeName b name c
      → One (of_kind CloseParenthesis) c close_parenthesis d
      → IsOptionPart Skip a d

-- "." part
pub data IsDotPart (custom : CustomOptions) : List Lexeme → List Lexeme → Type 0 where
  dot_part : {a b c : List Lexeme} {dot : Span} → One (of_kind Dot) a dot b → IsOptionPart custom b c
      → IsDotPart custom a c

-- part { "." part }
pub data IsOptionName (custom : CustomOptions) : List Lexeme → List Lexeme → Type 0 where
  option_name : {a b c : List Lexeme} → IsOptionPart custom a b
      → Until (not_next Dot) (Passes (IsDotPart custom)) tt b tt c → IsOptionName custom a c

pub data IsLiteral : List Lexeme → List Lexeme → Type 0 where
  literal : {a b : List Lexeme} {text : Span} → One (of_kind StringLiteral) a text b → IsLiteral a b

-- strings = STRING { STRING }
pub data IsStrings : List Lexeme → List Lexeme → Type 0 where
  strings : {a b c : List Lexeme} → IsLiteral a b → Until (not_next StringLiteral) (Passes IsLiteral) tt b tt c
      → IsStrings a c

-- Any tokens, up to and with the `}` that closes the last of this many open braces. Only `{` and `}` count.
pub data IsClosed : ℕ → List Lexeme → List Lexeme → Type 0 where
  closed : {a : List Lexeme} → IsClosed zero a a
  open_brace : {depth : ℕ} {a b c : List Lexeme} {span : Span}
      → One (of_kind OpenBrace) a span b → IsClosed (suc (suc depth)) b c → IsClosed (suc depth) a c
  close_brace : {depth : ℕ} {a b c : List Lexeme} {span : Span}
      → One (of_kind CloseBrace) a span b → IsClosed depth b c → IsClosed (suc depth) a c
  other : {depth : ℕ} {a b c : List Lexeme} {span : Span}
      → first_is (of_kind OpenBrace) a ≡ false → first_is (of_kind CloseBrace) a ≡ false → One (λ t. true) a span b
      → IsClosed (suc depth) b c
      → IsClosed (suc depth) a c

-- constant = name | [ "-" | "+" ] ( INT | FLOAT | "inf" | "nan" ) | strings. An `inf` or `nan` without a sign is a
-- name.
-- If custom options are read past (the project's own), also "{", any tokens with "{" and "}" balanced, "}".
pub data IsConstant : CustomOptions → List Lexeme → List Lexeme → Type 0 where
  name : {custom : CustomOptions} {a b : List Lexeme} {components : List Span} → IsName a components b
      → IsConstant custom a b
  signed : {custom : CustomOptions} {a b c : List Lexeme} {sign number : Span} → One is_sign a sign b
      → One is_number b number c → IsConstant custom a c
  unsigned : {custom : CustomOptions} {a b : List Lexeme} {number : Span} → One is_numeral a number b
      → IsConstant custom a b
  strings : {custom : CustomOptions} {a b : List Lexeme} → IsStrings a b → IsConstant custom a b
  aggregate : {a b c : List Lexeme} {open_brace : Span} → One (of_kind OpenBrace) a open_brace b → IsClosed 1 b c
      → IsConstant Skip a c

-- name "=" constant
pub data IsSetting (custom : CustomOptions) : List Lexeme → List Lexeme → Type 0 where
  setting : {a b c d : List Lexeme} {equals : Span} → IsOptionName custom a b → One (of_kind Equals) b equals c
      → IsConstant custom c d → IsSetting custom a d

-- "," name "=" constant
pub data IsCommaSetting (custom : CustomOptions) : List Lexeme → List Lexeme → Type 0 where
  comma_setting : {a b c : List Lexeme} {comma : Span} → One (of_kind Comma) a comma b → IsSetting custom b c
      → IsCommaSetting custom a c

-- option = "option" name "=" constant ";"
pub data IsOption (custom : CustomOptions) : List Lexeme → List Lexeme → Type 0 where
  option : {a b c d : List Lexeme} {keyword semicolon : Span}
      → One (is_word (codes "option")) a keyword b → IsSetting custom b c → One (of_kind Semicolon) c semicolon d
      → IsOption custom a d

-- [ fieldOptions ], where fieldOptions = "[" name "=" constant { "," name "=" constant } "]"
pub data IsOptions (custom : CustomOptions) : List Lexeme → List Lexeme → Type 0 where
  none : {a : List Lexeme} → first_is (of_kind OpenBracket) a ≡ false → IsOptions custom a a
  some : {a b c d e : List Lexeme} {open_bracket close_bracket : Span}
      → One (of_kind OpenBracket) a open_bracket b → IsSetting custom b c
      → Until (not_next Comma) (Passes (IsCommaSetting custom)) tt c tt d
      → One (of_kind CloseBracket) d close_bracket e
      → IsOptions custom a e
