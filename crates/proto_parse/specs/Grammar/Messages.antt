-- Enums, messages, groups, oneofs and extends (proto3 specification, "Enum definition", "Oneof and oneof field" and
-- "Message definition"; proto2 specification, "Group field", "Oneof and oneof field", "Message definition" and
-- "Extend").
use Rattle.std.specs.Prelude.{◌≡◌, ℕ, zero, suc, true, false, ◌&&◌, Option, Some, None, option_map, List, []}
use Rattle.std.specs.Prelude.{◌∷◌, codes}
use Rattle.proto_lex.specs.declared.span.Span.{Span}
use Rattle.proto_lex.specs.declared.token.TokenKind.TheVariants.{Identifier, Semicolon, Equals, OpenBrace, CloseBrace}
use Rattle.proto_grammar.specs.declared.dialect.CustomOptions.{CustomOptions}
use Rattle.proto_grammar.specs.declared.dialect.CustomOptions.TheVariants.{Skip}
use Rattle.proto_grammar.specs.declared.dialect.Syntax.{Syntax}
use Rattle.proto_grammar.specs.declared.dialect.Syntax.TheVariants.{Proto3}
use Rattle.proto_grammar.specs.declared.tree.Heading.{Heading}
use Rattle.proto_grammar.specs.declared.tree.Label.{Label}
use Rattle.proto_grammar.specs.declared.tree.TypeName.{TypeName}
use Rattle.proto_grammar.specs.declared.tree.Field.{Field}
use Rattle.proto_grammar.specs.declared.tree.MapField.{MapField}
use Rattle.proto_grammar.specs.declared.tree.Enum.{Enum}
use Rattle.proto_grammar.specs.declared.tree.Group.{Group}
use Rattle.proto_grammar.specs.declared.tree.Head.TheVariants as head
use Rattle.proto_grammar.specs.declared.tree.Leaf.TheVariants as leaf
use Rattle.proto_grammar.specs.declared.tree.Item.{Item}
use Rattle.proto_grammar.specs.declared.tree.Item.TheVariants.{Block, Leaf}
use Rattle.proto_grammar.specs.Lexeme.{Lexeme}
use Rattle.proto_grammar.specs.Terminal.{first_is, of_kind, is_word, closes, begins_scalar, begins_group}
use Rattle.proto_grammar.specs.Syntax.{custom_of, is_proto2, extends}
use Rattle.proto_parse.specs.Choice.{begins_other}
use Rattle.proto_grammar.specs.Tree.{BlockTree}
use Rattle.proto_grammar.specs.Items.{body_of}
use Rattle.proto_grammar.specs.Grammar.Repetition.{One, Until, Adds, Passes}
use Rattle.proto_grammar.specs.Grammar.Names.{IsTypeName}
use Rattle.proto_grammar.specs.Grammar.Options.{IsOption, IsOptions}
use Rattle.proto_grammar.specs.Grammar.Fields.{IsTyped, IsLabel, IsField, IsGroupHead, IsMapField}
use Rattle.proto_grammar.specs.Grammar.Reserved.{IsInteger, IsReserved, IsExtensions}

-- The declaring word, IDENT, "{".
pub data IsHeading (word : List ℕ) : List Lexeme → Heading → List Lexeme → Type 0 where
  heading : {a b c d : List Lexeme} {first name closing : Span}
      → One (is_word word) a first b → One (of_kind Identifier) b name c → One (of_kind OpenBrace) c closing d
      → IsHeading word a (record { first = first; name = name; closing = closing }) d

-- value = IDENT "=" [ "-" ] INT [ fieldOptions ] ";"
pub data IsValue (custom : CustomOptions) : List Lexeme → Heading → List Lexeme → Type 0 where
  value : {a b c d e f : List Lexeme} {name equals closing : Span}
      → One (of_kind Identifier) a name b → One (of_kind Equals) b equals c → IsInteger true c d → IsOptions custom d e
      → One (of_kind Semicolon) e closing f
      → IsValue custom a (record { first = name; name = name; closing = closing }) f

-- option | enumReserved | value | ";". The words `option` and `reserved` choose, anything else begins a value.
pub data IsEnumItem (custom : CustomOptions) : List Lexeme → Option Heading → List Lexeme → Type 0 where
  empty : {a b : List Lexeme} {semicolon : Span} → One (of_kind Semicolon) a semicolon b → IsEnumItem custom a None b
  option : {a b : List Lexeme} → IsOption custom a b → IsEnumItem custom a None b
  reserved : {a b : List Lexeme} → IsReserved true a b → IsEnumItem custom a None b
  value : {a b : List Lexeme} {value : Heading}
      → first_is (of_kind Semicolon) a ≡ false → first_is (is_word (codes "option")) a ≡ false
      → first_is (is_word (codes "reserved")) a ≡ false → IsValue custom a value b
      → IsEnumItem custom a (Some value) b

-- enum = "enum" IDENT "{" { option | enumReserved | value | ";" } "}"
pub data IsEnum (custom : CustomOptions) : List Lexeme → Enum → List Lexeme → Type 0 where
  enum : {a b c d : List Lexeme} {heading : Heading} {values : List Heading} {close_brace : Span}
      → IsHeading (codes "enum") a heading b → Until closes (Adds (IsEnumItem custom)) [] b values c
      → One (of_kind CloseBrace) c close_brace d
      → IsEnum custom a (record { heading = heading; values = values }) d

-- { item } "}"
pub data IsBraced (IsItem : List Lexeme → Option Item → List Lexeme → Type 0) : List Lexeme → List Item → List Lexeme
    → Type 0 where
  braced : {a b c : List Lexeme} {items : List Item} {close_brace : Span}
      → Until closes (Adds IsItem) [] a items b → One (of_kind CloseBrace) b close_brace c → IsBraced IsItem a items c

-- group = [ label ] "group" IDENT "=" INT [ fieldOptions ] "{" { .. } "}", from behind its label on. `Inner` is what is
-- behind the "{" of a message or a group, its "}" included.
pub data IsGroup (custom : CustomOptions) (Inner : List Lexeme → List Item → List Lexeme → Type 0) (first : Span)
    (label : Option Label) : List Lexeme → BlockTree → List Lexeme → Type 0 where
  group : {a b c : List Lexeme} {group : Group} {items : List Item}
      → IsGroupHead custom first label a group b → Inner b items c
      → IsGroup custom Inner first label a (record { head = head.Group group; body = body_of items }) c

-- field | group, from behind its label on. In proto2 the word `group` that no `.` follows begins a group. Anything else
-- begins a field.
pub data IsLabelled (syntax : Syntax) (Inner : List Lexeme → List Item → List Lexeme → Type 0) (first : Span)
    (label : Option Label) : List Lexeme → Item → List Lexeme → Type 0 where
  field : {a b : List Lexeme} {field : Field}
      → (is_proto2 syntax && begins_group a) ≡ false → IsTyped (custom_of syntax) first label a field b
      → IsLabelled syntax Inner first label a (Leaf (leaf.Field field)) b
  group : {a b : List Lexeme} {group : BlockTree}
      → (is_proto2 syntax && begins_group a) ≡ true → IsGroup (custom_of syntax) Inner first label a group b
      → IsLabelled syntax Inner first label a (Block group) b

-- field | group, in a message or an extend
pub data IsMember (syntax : Syntax) (Inner : List Lexeme → List Item → List Lexeme → Type 0) : List Lexeme → Item
    → List Lexeme → Type 0 where
  member : {t : Lexeme} {rest b c : List Lexeme} {label : Option Label} {item : Item}
      → IsLabel syntax (t ∷ rest) label b → IsLabelled syntax Inner t.span label b item c
      → IsMember syntax Inner (t ∷ rest) item c

-- field | group, in a oneof: it has no label
pub data IsOneofMember (syntax : Syntax) (Inner : List Lexeme → List Item → List Lexeme → Type 0) : List Lexeme → Item
    → List Lexeme → Type 0 where
  oneof_member : {t : Lexeme} {rest b : List Lexeme} {item : Item}
      → IsLabelled syntax Inner t.span None (t ∷ rest) item b → IsOneofMember syntax Inner (t ∷ rest) item b

-- option | oneofField | group | ";". The word `option` chooses, anything else begins a field or a group.
pub data IsOneofItem (syntax : Syntax) (Inner : List Lexeme → List Item → List Lexeme → Type 0) : List Lexeme
    → Option Item → List Lexeme → Type 0 where
  empty : {a b : List Lexeme} {semicolon : Span} → One (of_kind Semicolon) a semicolon b
      → IsOneofItem syntax Inner a None b
  option : {a b : List Lexeme} → IsOption (custom_of syntax) a b → IsOneofItem syntax Inner a None b
  member : {a b : List Lexeme} {item : Item}
      → first_is (of_kind Semicolon) a ≡ false → first_is (is_word (codes "option")) a ≡ false
      → IsOneofMember syntax Inner a item b
      → IsOneofItem syntax Inner a (Some item) b

-- oneof = "oneof" IDENT "{" { option | oneofField | group | ";" } "}"
pub data IsOneof (syntax : Syntax) (Inner : List Lexeme → List Item → List Lexeme → Type 0) : List Lexeme → BlockTree
    → List Lexeme → Type 0 where
  oneof : {a b c : List Lexeme} {heading : Heading} {items : List Item}
      → IsHeading (codes "oneof") a heading b → IsBraced (IsOneofItem syntax Inner) b items c
      → IsOneof syntax Inner a (record { head = head.Oneof heading; body = body_of items }) c

-- field | group | ";", in an extend
pub data IsExtendItem (syntax : Syntax) (Inner : List Lexeme → List Item → List Lexeme → Type 0) : List Lexeme
    → Option Item → List Lexeme → Type 0 where
  empty : {a b : List Lexeme} {semicolon : Span} → One (of_kind Semicolon) a semicolon b
      → IsExtendItem syntax Inner a None b
  member : {a b : List Lexeme} {item : Item} → first_is (of_kind Semicolon) a ≡ false → IsMember syntax Inner a item b
      → IsExtendItem syntax Inner a (Some item) b

-- extend = "extend" typename "{" { field | group | ";" } "}". A scalar word that isn't followed by `.` can't begin the
-- type's name.
pub data IsExtend (syntax : Syntax) (Inner : List Lexeme → List Item → List Lexeme → Type 0) : List Lexeme → BlockTree
    → List Lexeme → Type 0 where
  extend : {a b c d e : List Lexeme} {keyword open_brace : Span} {type : TypeName} {items : List Item}
      → One (is_word (codes "extend")) a keyword b → begins_scalar b ≡ false → IsTypeName b type c
      → One (of_kind OpenBrace) c open_brace d → IsBraced (IsExtendItem syntax Inner) d items e
      → IsExtend syntax Inner a (record { head = head.Extend type; body = body_of items }) e

-- field | ";", in an extend that is read past
pub data IsPassedItem : List Lexeme → List Lexeme → Type 0 where
  empty : {a b : List Lexeme} {semicolon : Span} → One (of_kind Semicolon) a semicolon b → IsPassedItem a b
  field : {a b : List Lexeme} {field : Field} → first_is (of_kind Semicolon) a ≡ false → IsField Skip a field b
      → IsPassedItem a b

-- "extend" typename "{" { field | ";" } "}", only if custom options are read past (the project's own). Nothing of it
-- is kept.
pub data IsPassedExtend : CustomOptions → List Lexeme → List Lexeme → Type 0 where
  passed_extend : {a b c d e f : List Lexeme} {keyword open_brace close_brace : Span} {name : TypeName}
      → One (is_word (codes "extend")) a keyword b → IsTypeName b name c → One (of_kind OpenBrace) c open_brace d
      → Until closes (Passes IsPassedItem) tt d tt e → One (of_kind CloseBrace) e close_brace f
      → IsPassedExtend Skip a f

-- An extend, if extends declare fields. If only proto3 is accepted, they are refused or read past, as custom options
-- are.
pub data IsExtendStatement (Inner : List Lexeme → List Item → List Lexeme → Type 0) : Syntax → List Lexeme
    → Option BlockTree → List Lexeme → Type 0 where
  kept : {syntax : Syntax} {a b : List Lexeme} {extend : BlockTree} → extends syntax ≡ true
      → IsExtend syntax Inner a extend b → IsExtendStatement Inner syntax a (Some extend) b
  passed : {custom : CustomOptions} {a b : List Lexeme} → IsPassedExtend custom a b
      → IsExtendStatement Inner (Proto3 custom) a None b

-- message = "message" IDENT "{" { .. } "}"
pub data IsMessage (Inner : List Lexeme → List Item → List Lexeme → Type 0) : List Lexeme → BlockTree → List Lexeme
    → Type 0 where
  message : {a b c : List Lexeme} {heading : Heading} {items : List Item}
      → IsHeading (codes "message") a heading b → Inner b items c
      → IsMessage Inner a (record { head = head.Message heading; body = body_of items }) c

-- message | enum | option | oneof | mapField | reserved | extend | extensions | field | group | ";". A field or a group
-- begins as none of the others does. Only in proto2 does anything begin with `extensions`.
pub data IsMessageItem (syntax : Syntax) (Inner : List Lexeme → List Item → List Lexeme → Type 0) : List Lexeme
    → Option Item → List Lexeme → Type 0 where
  empty : {a b : List Lexeme} {semicolon : Span} → One (of_kind Semicolon) a semicolon b
      → IsMessageItem syntax Inner a None b
  message : {a b : List Lexeme} {message : BlockTree} → IsMessage Inner a message b
      → IsMessageItem syntax Inner a (Some (Block message)) b
  enum : {a b : List Lexeme} {enum : Enum} → IsEnum (custom_of syntax) a enum b
      → IsMessageItem syntax Inner a (Some (Leaf (leaf.Enum enum))) b
  option : {a b : List Lexeme} → IsOption (custom_of syntax) a b → IsMessageItem syntax Inner a None b
  oneof : {a b : List Lexeme} {oneof : BlockTree} → IsOneof syntax Inner a oneof b
      → IsMessageItem syntax Inner a (Some (Block oneof)) b
  map_field : {a b : List Lexeme} {field : MapField} → IsMapField (custom_of syntax) a field b
      → IsMessageItem syntax Inner a (Some (Leaf (leaf.MapField field))) b
  reserved : {a b : List Lexeme} → IsReserved false a b → IsMessageItem syntax Inner a None b
  extend : {a b : List Lexeme} {extend : Option BlockTree} → IsExtendStatement Inner syntax a extend b
      → IsMessageItem syntax Inner a (option_map Block extend) b
  extensions : {a b : List Lexeme} → is_proto2 syntax ≡ true → IsExtensions (custom_of syntax) a b
      → IsMessageItem syntax Inner a None b
  member : {a b : List Lexeme} {item : Item} → begins_other syntax a ≡ false → IsMember syntax Inner a item b
      → IsMessageItem syntax Inner a (Some item) b

-- What is behind the "{" of a message or a group, its "}" included. The message or the group takes up one of this many
-- levels. What is between its braces takes up the others: oneofs and extends take up none.
unfoldable pub IsInside : Syntax → (levels : ℕ) → List Lexeme → List Item → List Lexeme → Type 0
IsInside syntax zero a items b = ⊥
IsInside syntax (suc levels) a items b = IsBraced (IsMessageItem syntax (IsInside syntax levels)) a items b
