-- Reserved statements (proto3 specification, "Reserved") and extension ranges (proto2 specification, "Extensions").
-- Nothing of them is kept.
use Rattle.std.specs.Prelude.{◌≡◌, Bool, true, false, List, codes}
use Rattle.proto_lex.specs.declared.span.Span.{Span}
use Rattle.proto_lex.specs.declared.token.TokenKind.TheVariants.{Integer, StringLiteral, Semicolon, Comma, Minus}
use Rattle.proto_grammar.specs.declared.dialect.CustomOptions.{CustomOptions}
use Rattle.proto_grammar.specs.Lexeme.{Lexeme}
use Rattle.proto_grammar.specs.Terminal.{first_is, of_kind, is_word, not_next}
use Rattle.proto_grammar.specs.Grammar.Repetition.{One, Until, Passes}
use Rattle.proto_grammar.specs.Grammar.Options.{IsStrings, IsOptions}

-- INT. If numbers may be negative, [ "-" ] INT.
pub data IsInteger : (negative : Bool) → List Lexeme → List Lexeme → Type 0 where
  plain : {negative : Bool} {a b : List Lexeme} {number : Span} → One (of_kind Integer) a number b
      → IsInteger negative a b
  minus : {a b c : List Lexeme} {minus number : Span} → One (of_kind Minus) a minus b
      → One (of_kind Integer) b number c → IsInteger true a c

-- INT | "max", the end of a range
pub data IsRangeEnd (negative : Bool) : List Lexeme → List Lexeme → Type 0 where
  number : {a b : List Lexeme} → IsInteger negative a b → IsRangeEnd negative a b
  max : {a b : List Lexeme} {word : Span} → One (is_word (codes "max")) a word b → IsRangeEnd negative a b

-- range = INT [ "to" ( INT | "max" ) ]
-- enumRange = [ "-" ] INT [ "to" ( [ "-" ] INT | "max" ) ]
pub data IsRange (negative : Bool) : List Lexeme → List Lexeme → Type 0 where
  single : {a b : List Lexeme} → IsInteger negative a b → first_is (is_word (codes "to")) b ≡ false
      → IsRange negative a b
  range : {a b c d : List Lexeme} {word : Span}
      → IsInteger negative a b → One (is_word (codes "to")) b word c → IsRangeEnd negative c d → IsRange negative a d

-- strings if names are reserved, a range if numbers are
pub data IsReservedItem (negative : Bool) : (names : Bool) → List Lexeme → List Lexeme → Type 0 where
  name : {a b : List Lexeme} → IsStrings a b → IsReservedItem negative true a b
  number : {a b : List Lexeme} → IsRange negative a b → IsReservedItem negative false a b

pub data IsCommaItem (negative names : Bool) : List Lexeme → List Lexeme → Type 0 where
  comma_item : {a b c : List Lexeme} {comma : Span} → One (of_kind Comma) a comma b → IsReservedItem negative names b c
      → IsCommaItem negative names a c

-- reserved = "reserved" ( range { "," range } | strings { "," strings } ) ";", in a message
-- enumReserved = "reserved" ( enumRange { "," enumRange } | strings { "," strings } ) ";", in an enum, if numbers may
-- be negative
pub data IsReserved (negative : Bool) : List Lexeme → List Lexeme → Type 0 where
  reserved : {names : Bool} {a b c d e : List Lexeme} {keyword semicolon : Span}
      → One (is_word (codes "reserved")) a keyword b → first_is (of_kind StringLiteral) b ≡ names
      → IsReservedItem negative names b c → Until (not_next Comma) (Passes (IsCommaItem negative names)) tt c tt d
      → One (of_kind Semicolon) d semicolon e
      → IsReserved negative a e

-- extensions = "extensions" range { "," range } [ fieldOptions ] ";"
pub data IsExtensions (custom : CustomOptions) : List Lexeme → List Lexeme → Type 0 where
  extensions : {a b c d e f : List Lexeme} {keyword semicolon : Span}
      → One (is_word (codes "extensions")) a keyword b → IsRange false b c
      → Until (not_next Comma) (Passes (IsCommaItem false false)) tt c tt d → IsOptions custom d e
      → One (of_kind Semicolon) e semicolon f
      → IsExtensions custom a f
