-- Fields (proto3 specification, "Normal field" and "Map field"; proto2 specification, "Normal field" and "Group
-- field").
use Rattle.std.specs.Prelude.{◌≡◌, false, Option, Some, None, List, ◌∷◌, codes}
use Rattle.proto_lex.specs.declared.span.Span.{Span}
use Rattle.proto_lex.specs.declared.token.TokenKind.TheVariants.{Identifier, Integer, Semicolon, Equals, Less, Greater}
use Rattle.proto_lex.specs.declared.token.TokenKind.TheVariants.{OpenBrace, Comma}
use Rattle.proto_grammar.specs.declared.dialect.CustomOptions.{CustomOptions}
use Rattle.proto_grammar.specs.declared.dialect.Syntax.{Syntax}
use Rattle.proto_grammar.specs.declared.dialect.Syntax.TheVariants.{Proto3, Proto2}
use Rattle.proto_grammar.specs.declared.tree.Heading.{Heading}
use Rattle.proto_grammar.specs.declared.tree.Label.{Label}
use Rattle.proto_grammar.specs.declared.tree.Label.TheVariants.{Repeated, Optional, Required}
use Rattle.proto_grammar.specs.declared.tree.FieldType.{FieldType}
use Rattle.proto_grammar.specs.declared.tree.Field.{Field}
use Rattle.proto_grammar.specs.declared.tree.Group.{Group}
use Rattle.proto_grammar.specs.declared.tree.MapField.{MapField}
use Rattle.proto_grammar.specs.Lexeme.{Lexeme}
use Rattle.proto_grammar.specs.Terminal.{first_is, of_kind, is_word, is_group_name, is_key}
use Rattle.proto_grammar.specs.Syntax.{is_proto2}
use Rattle.proto_grammar.specs.Grammar.Repetition.{One}
use Rattle.proto_grammar.specs.Grammar.Names.{IsType}
use Rattle.proto_grammar.specs.Grammar.Options.{IsOptions}

-- IDENT "=" INT [ fieldOptions ] ";", of a field that begins with the first token.
pub data IsNumbered (custom : CustomOptions) (first : Span) : List Lexeme → Heading → List Lexeme → Type 0 where
  numbered : {a b c d e f : List Lexeme} {name equals number closing : Span}
      → One (of_kind Identifier) a name b → One (of_kind Equals) b equals c → One (of_kind Integer) c number d
      → IsOptions custom d e → One (of_kind Semicolon) e closing f
      → IsNumbered custom first a (record { first = first; name = name; closing = closing }) f

-- type IDENT "=" INT [ fieldOptions ] ";", of a field with this first token and label.
pub data IsTyped (custom : CustomOptions) (first : Span) (label : Option Label) : List Lexeme → Field → List Lexeme
    → Type 0 where
  typed : {a b c : List Lexeme} {type : FieldType} {heading : Heading}
      → IsType a type b → IsNumbered custom first b heading c
      → IsTyped custom first label a (record { heading = heading; label = label; field_type = type }) c

-- In proto3: [ "repeated" | "optional" ]. In proto2: "repeated" | "optional" | "required".
pub data IsLabel : Syntax → List Lexeme → Option Label → List Lexeme → Type 0 where
  repeated : {syntax : Syntax} {a b : List Lexeme} {word : Span} → One (is_word (codes "repeated")) a word b
      → IsLabel syntax a (Some Repeated) b
  optional : {syntax : Syntax} {a b : List Lexeme} {word : Span} → One (is_word (codes "optional")) a word b
      → IsLabel syntax a (Some Optional) b
  required : {a b : List Lexeme} {word : Span} → One (is_word (codes "required")) a word b
      → IsLabel Proto2 a (Some Required) b
  no_label : {syntax : Syntax} {a : List Lexeme} → is_proto2 syntax ≡ false
      → first_is (is_word (codes "repeated")) a ≡ false → first_is (is_word (codes "optional")) a ≡ false
      → IsLabel syntax a None a

-- field = [ "repeated" | "optional" ] type IDENT "=" INT [ fieldOptions ] ";", of proto3
pub data IsField (custom : CustomOptions) : List Lexeme → Field → List Lexeme → Type 0 where
  field : {t : Lexeme} {rest b c : List Lexeme} {label : Option Label} {field : Field}
      → IsLabel (Proto3 custom) (t ∷ rest) label b → IsTyped custom t.span label b field c
      → IsField custom (t ∷ rest) field c

-- "group" IDENT "=" INT [ fieldOptions ] "{", of a group with this first token and label. The name begins with a
-- capital letter.
pub data IsGroupHead (custom : CustomOptions) (first : Span) (label : Option Label) : List Lexeme → Group → List Lexeme
    → Type 0 where
  group_head : {a b c d e f g : List Lexeme} {word name equals number closing : Span}
      → One (is_word (codes "group")) a word b → One is_group_name b name c → One (of_kind Equals) c equals d
      → One (of_kind Integer) d number e → IsOptions custom e f → One (of_kind OpenBrace) f closing g
      → IsGroupHead custom first label a (record {
        heading = record { first = first; name = name; closing = closing };
        label = label;
        word = word;
      }) g

-- mapField = "map" "<" KEY "," type ">" IDENT "=" INT [ fieldOptions ] ";"
pub data IsMapField (custom : CustomOptions) : List Lexeme → MapField → List Lexeme → Type 0 where
  map_field : {a b c d e f g h : List Lexeme} {first less key comma greater : Span} {value : FieldType}
      {heading : Heading}
      → One (is_word (codes "map")) a first b → One (of_kind Less) b less c → One is_key c key d
      → One (of_kind Comma) d comma e
      → IsType e value f → One (of_kind Greater) f greater g → IsNumbered custom first g heading h
      → IsMapField custom a (record { heading = heading; key = key; value = value }) h
