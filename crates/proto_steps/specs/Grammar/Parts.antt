-- The grammar of what is inside statements, in the order of the specifications: names, options, fields, extensions and
-- reserved. `custom` says what is done with custom options, and `syntax` which grammar it is.
use Rattle.std.specs.Prelude.{◌-◌, ◌+◌, ℕ, Bool, true, false, ◌&&◌, cond, Option, Some, None, List, [], ◌∷◌, codes}
use Rattle.proto_lex.specs.declared.span.Span.{Span}
use Rattle.proto_lex.specs.declared.token.TokenKind.TheVariants.{Identifier, StringLiteral, Semicolon, Equals, Minus}
use Rattle.proto_lex.specs.declared.token.TokenKind.TheVariants.{OpenBrace, CloseBrace, OpenBracket, CloseBracket}
use Rattle.proto_lex.specs.declared.token.TokenKind.TheVariants.{OpenParenthesis, CloseParenthesis, Comma, Dot}
use Rattle.proto_lex.specs.declared.token.TokenKind.TheVariants.{Less, Greater}
use Rattle.proto_grammar.specs.declared.dialect.CustomOptions.{CustomOptions}
use Rattle.proto_grammar.specs.declared.dialect.CustomOptions.TheVariants.{Refuse, Skip}
use Rattle.proto_grammar.specs.declared.dialect.Syntax.{Syntax}
use Rattle.proto_grammar.specs.declared.dialect.Syntax.TheVariants.{Proto3}
use Rattle.proto_grammar.specs.declared.fault.SyntaxFault.TheVariants.{CustomOption, Aggregate, Grammar}
use Rattle.proto_grammar.specs.declared.tree.TypeName.{TypeName}
use Rattle.proto_grammar.specs.declared.tree.FieldType.{FieldType}
use Rattle.proto_grammar.specs.declared.tree.FieldType.TheVariants.{Scalar, Named}
use Rattle.proto_grammar.specs.declared.tree.Heading.{Heading}
use Rattle.proto_grammar.specs.declared.tree.Label.{Label}
use Rattle.proto_grammar.specs.declared.tree.Label.TheVariants.{Repeated, Optional, Required}
use Rattle.proto_grammar.specs.declared.tree.Field.{Field}
use Rattle.proto_grammar.specs.declared.tree.Group.{Group}
use Rattle.proto_grammar.specs.declared.tree.MapField.{MapField}
use Rattle.proto_grammar.specs.Lexeme.{Lexeme}
use Rattle.proto_grammar.specs.Terminal.{of_kind, is_word, is_sign, is_scalar_type}
use Rattle.proto_grammar.specs.Syntax.{is_proto2}
use Rattle.proto_steps.specs.Step.{Step, Done, Never, Peek, If, While, Count, ◌>>=◌, adding, passing, passed, when}
use Rattle.proto_steps.specs.Terminals.{like, a_label, sign, word, ident, int, literal, scalar, key, group_name}
use Rattle.proto_steps.specs.Terminals.{minus_or_plus}
use Rattle.proto_steps.specs.Terminals.{numeral, number}

-- ---- "Identifiers"

-- "." IDENT
unfoldable pub dot_name : Step (Option Span)
dot_name = do
  dot ← sign Dot
  component ← ident
  Done (Some component)

unfoldable pub dot_names : List Span → Step (List Span)
dot_names components = While (of_kind Dot) (adding dot_name) components

-- name = IDENT { "." IDENT }
unfoldable pub name : Step (List Span)
name = do
  component ← ident
  dot_names (component ∷ [])

unfoldable pub leading_dot : Step (Option Span)
leading_dot = If (of_kind Dot) (sign Dot >>= λ dot. Done (Some dot)) (Done None)

-- typename = [ "." ] name
unfoldable pub type_name : Step TypeName
type_name = do
  dot ← leading_dot
  components ← name
  Done (record { leading_dot = dot; components = components })

-- typename that doesn't begin with the word of a scalar type, unless a `.` follows it
unfoldable pub named_type : Step TypeName
named_type = If is_scalar_type (Never Grammar) type_name

-- type = SCALAR | typename
unfoldable pub field_type : Step FieldType
field_type = If is_scalar_type (scalar >>= λ type. Done (Scalar type)) (type_name >>= λ type. Done (Named type))

-- ---- "Option", "Constant". Nothing of them is kept.

-- "(" typename ")", if custom options are read past (the project's own)
unfoldable pub extension : CustomOptions → Step (Unit {0})
extension Refuse = Never CustomOption
extension Skip = do
  open_parenthesis ← sign OpenParenthesis
  extended ← passed type_name
  close_parenthesis ← sign CloseParenthesis
  Done tt

unfoldable pub part : CustomOptions → Step (Unit {0})
part custom = If (of_kind OpenParenthesis) (extension custom) (passed ident)

unfoldable pub dot_part : CustomOptions → Step (Unit {0})
dot_part custom = do
  dot ← sign Dot
  part custom

unfoldable pub dot_parts : CustomOptions → Step (Unit {0})
dot_parts custom = While (of_kind Dot) (passing (dot_part custom)) tt

-- part { "." part }
unfoldable pub option_name : CustomOptions → Step (Unit {0})
option_name custom = do
  first ← part custom
  dot_parts custom

unfoldable pub string : Step (Unit {0})
string = passed literal

unfoldable pub more_strings : Step (Unit {0})
more_strings = While (of_kind StringLiteral) (passing string) tt

-- strings = STRING { STRING }
unfoldable pub strings : Step (Unit {0})
strings = do
  first ← string
  more_strings

-- how many braces are open behind a token
abbrev pub open_behind : Lexeme → ℕ → ℕ
open_behind t depth = cond (of_kind OpenBrace t) (depth + 1) (cond (of_kind CloseBrace t) (depth - 1) depth)

-- "{", any tokens with "{" and "}" balanced, "}", if custom options are read past (the project's own)
unfoldable pub aggregate : CustomOptions → Step (Unit {0})
aggregate Refuse = Never Aggregate
aggregate Skip = do
  open_brace ← sign OpenBrace
  Count (like CloseBrace []) open_behind 1

unfoldable pub signed : Step (Unit {0})
signed = do
  minus ← minus_or_plus
  value ← number
  Done tt

-- constant = name | [ "-" | "+" ] ( INT | FLOAT | "inf" | "nan" ) | strings
unfoldable pub constant : CustomOptions → Step (Unit {0})
constant custom =
    If (of_kind Identifier) (passed name)
    (If is_sign signed
    (If (of_kind StringLiteral) strings
    (If (of_kind OpenBrace) (aggregate custom) (passed numeral))))

-- name "=" constant
unfoldable pub setting : CustomOptions → Step (Unit {0})
setting custom = do
  names ← option_name custom
  equals ← sign Equals
  constant custom

unfoldable pub comma_setting : CustomOptions → Step (Unit {0})
comma_setting custom = do
  comma ← sign Comma
  setting custom

unfoldable pub comma_settings : CustomOptions → Step (Unit {0})
comma_settings custom = While (of_kind Comma) (passing (comma_setting custom)) tt

-- option = "option" name "=" constant ";"
unfoldable pub option_statement : CustomOptions → Step (Unit {0})
option_statement custom = do
  keyword ← word (codes "option")
  given ← setting custom
  semicolon ← sign Semicolon
  Done tt

-- fieldOptions = "[" name "=" constant { "," name "=" constant } "]"
unfoldable pub bracketed : CustomOptions → Step (Unit {0})
bracketed custom = do
  open_bracket ← sign OpenBracket
  given ← setting custom
  others ← comma_settings custom
  close_bracket ← sign CloseBracket
  Done tt

-- [ fieldOptions ]
unfoldable pub options : CustomOptions → Step (Unit {0})
options custom = If (of_kind OpenBracket) (bracketed custom) (Done tt)

-- ---- "Fields"

-- IDENT "=" INT [ fieldOptions ] ";", of a field that begins with the first token
unfoldable pub numbered : CustomOptions → Span → Step Heading
numbered custom first = do
  named ← ident
  equals ← sign Equals
  value ← int
  given ← options custom
  closing ← sign Semicolon
  Done (record { first = first; name = named; closing = closing })

-- type IDENT "=" INT [ fieldOptions ] ";", of a field with this first token and label
unfoldable pub typed : CustomOptions → Span → Option Label → Step Field
typed custom first label = do
  type ← field_type
  heading ← numbered custom first
  Done (record { heading = heading; label = label; field_type = type })

unfoldable pub required : Step (Option Label)
required = do
  keyword ← word (codes "required")
  Done (Some Required)

-- In proto3: [ "repeated" | "optional" ]. In proto2: "repeated" | "optional" | "required".
unfoldable pub label : Syntax → Step (Option Label)
label syntax =
    If (is_word (codes "repeated")) (word (codes "repeated") >>= λ keyword. Done (Some Repeated))
    (If (is_word (codes "optional")) (word (codes "optional") >>= λ keyword. Done (Some Optional))
    (when (is_proto2 syntax) required (Done None)))

-- field = [ "repeated" | "optional" ] type IDENT "=" INT [ fieldOptions ] ";", of proto3
unfoldable pub field : CustomOptions → Step Field
field custom = Peek a_label (λ first. label (Proto3 custom) >>= λ kind. typed custom first.span kind)

-- "group" IDENT "=" INT [ fieldOptions ] "{", of a group with this first token and label
unfoldable pub group_head : CustomOptions → Span → Option Label → Step Group
group_head custom first label = do
  keyword ← word (codes "group")
  named ← group_name
  equals ← sign Equals
  value ← int
  given ← options custom
  closing ← sign OpenBrace
  Done (record {
    heading = record { first = first; name = named; closing = closing };
    label = label;
    word = keyword;
  })

-- mapField = "map" "<" KEY "," type ">" IDENT "=" INT [ fieldOptions ] ";", from behind the word `map` on
unfoldable pub map_field : CustomOptions → Span → Step MapField
map_field custom first = do
  less ← sign Less
  from ← key
  comma ← sign Comma
  value ← field_type
  greater ← sign Greater
  heading ← numbered custom first
  Done (record { heading = heading; key = from; value = value })

-- ---- "Extensions and Reserved". Nothing of them is kept.

-- INT. If numbers may be negative, [ "-" ] INT.
unfoldable pub integer : Bool → Step (Unit {0})
integer negative =
    If (λ t. negative && of_kind Minus t) (sign Minus >>= λ minus. passed int) (passed int)

-- INT | "max", the end of a range
unfoldable pub range_end : Bool → Step (Unit {0})
range_end negative = If (is_word (codes "max")) (passed (word (codes "max"))) (integer negative)

-- range = INT [ "to" ( INT | "max" ) ]; enumRange alike, whose numbers may be negative
unfoldable pub range : Bool → Step (Unit {0})
range negative = do
  from ← integer negative
  If (is_word (codes "to")) (word (codes "to") >>= λ keyword. range_end negative) (Done tt)

-- strings if names are reserved, a range if numbers are
unfoldable pub reserved_item : Bool → Bool → Step (Unit {0})
reserved_item negative names = when names strings (range negative)

unfoldable pub comma_item : Bool → Bool → Step (Unit {0})
comma_item negative names = do
  comma ← sign Comma
  reserved_item negative names

unfoldable pub comma_items : Bool → Bool → Step (Unit {0})
comma_items negative names = While (of_kind Comma) (passing (comma_item negative names)) tt

-- reserved = "reserved" ( range { "," range } | strings { "," strings } ) ";"; enumReserved alike, with enumRange
unfoldable pub reserved_items : Bool → Bool → Step (Unit {0})
reserved_items negative names = do
  item ← reserved_item negative names
  comma_items negative names

unfoldable pub reserved : Bool → Step (Unit {0})
reserved negative = do
  keyword ← word (codes "reserved")
  items ← If (of_kind StringLiteral) (reserved_items negative true) (reserved_items negative false)
  semicolon ← sign Semicolon
  Done tt

-- extensions = "extensions" range { "," range } [ fieldOptions ] ";"
unfoldable pub extensions : CustomOptions → Step (Unit {0})
extensions custom = do
  keyword ← word (codes "extensions")
  first ← range false
  others ← comma_items false false
  given ← options custom
  semicolon ← sign Semicolon
  Done tt
