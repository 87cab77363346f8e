-- Services (proto3 specification, "Service definition").
use Rattle.std.specs.Prelude.{◌≡◌, false, Option, Some, None, List, [], codes}
use Rattle.proto_lex.specs.declared.span.Span.{Span}
use Rattle.proto_lex.specs.declared.token.TokenKind.TheVariants.{Identifier, Semicolon, OpenBrace, CloseBrace}
use Rattle.proto_lex.specs.declared.token.TokenKind.TheVariants.{OpenParenthesis, CloseParenthesis}
use Rattle.proto_grammar.specs.declared.dialect.CustomOptions.{CustomOptions}
use Rattle.proto_grammar.specs.declared.tree.Heading.{Heading}
use Rattle.proto_grammar.specs.declared.tree.TypeName.{TypeName}
use Rattle.proto_grammar.specs.declared.tree.Method.{Method}
use Rattle.proto_grammar.specs.declared.tree.Service.{Service}
use Rattle.proto_grammar.specs.Lexeme.{Lexeme}
use Rattle.proto_grammar.specs.Terminal.{first_is, of_kind, is_word, closes, begins_scalar}
use Rattle.proto_grammar.specs.Grammar.Repetition.{One, Until, Adds, Passes}
use Rattle.proto_grammar.specs.Grammar.Names.{IsTypeName}
use Rattle.proto_grammar.specs.Grammar.Options.{IsOption}
use Rattle.proto_parse.specs.Grammar.Messages.{IsHeading}

-- [ "stream" ]: directly after the parenthesis the word is the marker
pub data IsStream : List Lexeme → List Lexeme → Type 0 where
  stream : {a b : List Lexeme} {word : Span} → One (is_word (codes "stream")) a word b → IsStream a b
  no_stream : {a : List Lexeme} → first_is (is_word (codes "stream")) a ≡ false → IsStream a a

-- "(" [ "stream" ] typename ")". A scalar word that isn't followed by `.` can't begin the type's name.
pub data IsMethodType : List Lexeme → TypeName → List Lexeme → Type 0 where
  method_type : {a b c d e : List Lexeme} {open_parenthesis close_parenthesis : Span} {name : TypeName}
      → One (of_kind OpenParenthesis) a open_parenthesis b → IsStream b c → begins_scalar c ≡ false
      → IsTypeName c name d
      → One (of_kind CloseParenthesis) d close_parenthesis e
      → IsMethodType a name e

-- option | ";"
pub data IsMethodItem (custom : CustomOptions) : List Lexeme → List Lexeme → Type 0 where
  empty : {a b : List Lexeme} {semicolon : Span} → One (of_kind Semicolon) a semicolon b → IsMethodItem custom a b
  option : {a b : List Lexeme} → IsOption custom a b → IsMethodItem custom a b

-- ";" | "{" { option | ";" } "}", with its first token
pub data IsMethodEnd (custom : CustomOptions) : List Lexeme → Span → List Lexeme → Type 0 where
  semicolon : {a b : List Lexeme} {semicolon : Span} → One (of_kind Semicolon) a semicolon b
      → IsMethodEnd custom a semicolon b
  body : {a b c d : List Lexeme} {open_brace close_brace : Span}
      → One (of_kind OpenBrace) a open_brace b → Until closes (Passes (IsMethodItem custom)) tt b tt c
      → One (of_kind CloseBrace) c close_brace d
      → IsMethodEnd custom a open_brace d

-- rpc = "rpc" IDENT "(" [ "stream" ] typename ")" "returns" "(" [ "stream" ] typename ")" ( ";" | "{" { option | ";" }
-- "}" )
pub data IsMethod (custom : CustomOptions) : List Lexeme → Method → List Lexeme → Type 0 where
  method : {a b c d e f g : List Lexeme} {first name returns closing : Span} {input output : TypeName}
      → One (is_word (codes "rpc")) a first b → One (of_kind Identifier) b name c → IsMethodType c input d
      → One (is_word (codes "returns")) d returns e
      → IsMethodType e output f → IsMethodEnd custom f closing g
      → IsMethod custom a (record {
        heading = record { first = first; name = name; closing = closing };
        input = input;
        output = output;
      }) g

-- option | rpc | ";"
pub data IsServiceItem (custom : CustomOptions) : List Lexeme → Option Method → List Lexeme → Type 0 where
  empty : {a b : List Lexeme} {semicolon : Span} → One (of_kind Semicolon) a semicolon b → IsServiceItem custom a None b
  option : {a b : List Lexeme} → IsOption custom a b → IsServiceItem custom a None b
  method : {a b : List Lexeme} {method : Method} → IsMethod custom a method b → IsServiceItem custom a (Some method) b

-- service = "service" IDENT "{" { option | rpc | ";" } "}"
pub data IsService (custom : CustomOptions) : List Lexeme → Service → List Lexeme → Type 0 where
  service : {a b c d : List Lexeme} {heading : Heading} {methods : List Method} {close_brace : Span}
      → IsHeading (codes "service") a heading b → Until closes (Adds (IsServiceItem custom)) [] b methods c
      → One (of_kind CloseBrace) c close_brace d
      → IsService custom a (record { heading = heading; methods = methods }) d
