-- Names and types (proto3 specification, "Identifiers" and "Fields").
use Rattle.std.specs.Prelude.{◌≡◌, true, false, Option, Some, None, List, [], ◌∷◌}
use Rattle.proto_lex.specs.declared.span.Span.{Span}
use Rattle.proto_lex.specs.declared.token.TokenKind.TheVariants.{Identifier, Dot}
use Rattle.proto_grammar.specs.declared.tree.TypeName.{TypeName}
use Rattle.proto_grammar.specs.declared.tree.FieldType.{FieldType}
use Rattle.proto_grammar.specs.declared.tree.FieldType.TheVariants.{Scalar, Named}
use Rattle.proto_grammar.specs.Lexeme.{Lexeme}
use Rattle.proto_grammar.specs.Terminal.{of_kind, is_scalar, not_next, begins_scalar}
use Rattle.proto_grammar.specs.Grammar.Repetition.{One, Until, Adds}

-- "." IDENT
pub data IsDotName : List Lexeme → Option Span → List Lexeme → Type 0 where
  dot_name : {a b c : List Lexeme} {dot name : Span} → One (of_kind Dot) a dot b → One (of_kind Identifier) b name c
      → IsDotName a (Some name) c

-- name = IDENT { "." IDENT }
pub data IsName : List Lexeme → List Span → List Lexeme → Type 0 where
  name : {a b c : List Lexeme} {component : Span} {components : List Span}
      → One (of_kind Identifier) a component b → Until (not_next Dot) (Adds IsDotName) (component ∷ []) b components c
      → IsName a components c

-- typename = [ "." ] name
pub data IsTypeName : List Lexeme → TypeName → List Lexeme → Type 0 where
  rooted : {a b c : List Lexeme} {dot : Span} {components : List Span}
      → One (of_kind Dot) a dot b → IsName b components c
      → IsTypeName a (record { leading_dot = Some dot; components = components }) c
  plain : {a b : List Lexeme} {components : List Span}
      → IsName a components b → IsTypeName a (record { leading_dot = None; components = components }) b

-- type = SCALAR | typename. A scalar word that begins a type and isn't followed by `.` is a SCALAR.
pub data IsType : List Lexeme → FieldType → List Lexeme → Type 0 where
  scalar : {a b : List Lexeme} {word : Span} → begins_scalar a ≡ true → One is_scalar a word b
      → IsType a (Scalar word) b
  named : {a b : List Lexeme} {name : TypeName} → begins_scalar a ≡ false → IsTypeName a name b
      → IsType a (Named name) b
